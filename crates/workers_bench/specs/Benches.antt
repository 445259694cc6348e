-- What a clause says of a bench.
use Rattle.std.specs.Prelude.{◌≡◌, ℕ, Option, Some}
use Rattle.crossbeam_queue.specs.Passes.{Pass, view, IsPassOf, ruled_capacity}
use Rattle.workers_core.specs.declared.job.Job.{Job}
use Rattle.workers_bench.specs.declared.numbered.Numbered.{Numbered}
use Rattle.workers_bench.specs.declared.passes.Round.{Round}
use Rattle.workers_bench.specs.declared.passes.Hand.{Hand}
use Rattle.workers_bench.specs.declared.bench.Bench.{Bench}

abbrev pub round_at : Job → ℕ → Option Round
round_at job at = Some (record { job = job; at = at })

-- the round of the bench
abbrev pub round_of : Bench → Option Round
round_of bench = round_at bench.job.now bench.at

-- the pass is of this bench and its round
abbrev pub IsPassOfBench : Bench → Pass Numbered Hand → Type 0
IsPassOfBench bench pass = IsPassOf bench.queue pass × ((view pass).round ≡ round_of bench)

-- how many monitors the bench has room for
abbrev pub room_of : Bench → ℕ
room_of bench = ruled_capacity bench.queue
