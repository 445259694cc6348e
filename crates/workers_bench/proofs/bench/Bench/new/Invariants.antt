use Rattle.workers_bench.specs.Benches.{round_at}
use Rattle.workers_bench.proofs.bench.Bench.new.Given as goal

abbrev pub ghosts-open : goal.ghosts-open
ghosts-open a = record { round = round_at a.job.now a.at }
