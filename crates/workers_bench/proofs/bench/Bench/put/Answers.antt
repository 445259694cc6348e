use Rattle.std.proofs.Common.{Option, subst, sym}
use Rattle.workers_bench.specs.declared.passes.Round.{Round}
use Rattle.workers_bench.specs.Hands.{IsOfRound}
use Rattle.workers_bench.proofs.Keeps.{puts, room}
use Rattle.workers_bench.proofs.bench.Bench.put.Goals as goal

pub push_as-requires-clause-rule : goal.push_as-requires-clause-rule
push_as-requires-clause-rule g c = (
  puts _ _ _ _ c.requires.may.1 c.requires.may.0
      (subst (λ (r : Option Round). IsOfRound r c.args.monitor) (sym c.requires.of.1) c.requires.job) c.requires.order,
  room _ _ c.requires.may.0,
)
