use Rattle.workers_bench.proofs.Keeps.{takes}
use Rattle.workers_bench.proofs.bench.Bench.claim.Goals as goal

pub pop_as-monitor-requires-clause-rule : goal.pop_as-monitor-requires-clause-rule
pop_as-monitor-requires-clause-rule g c = (takes _ _ c.requires.may, λ items views k at. tt)
