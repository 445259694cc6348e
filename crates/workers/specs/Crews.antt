-- What the workers of a round begin with, and what they give back.
use Rattle.std.specs.Prelude.{◌≡◌, ◌^◌, ◌<◌, ◌≤◌, false, length}
use Rattle.crossbeam_queue.specs.Passes.{view}
use Rattle.cycle_window.specs.declared.window.Window.{Window}
use Rattle.verdicts.specs.declared.board.Board.{Board}
use Rattle.verdicts.specs.Shares.{parts, amounts, EachAtMost}
use Rattle.workers_bench.specs.declared.bench.Bench.{Bench}
use Rattle.workers_bench.specs.Hands.{NumbersRise, end_after}
use Rattle.workers_bench.specs.Passes.{pass_parts}
use Rattle.workers_bench.specs.Benches.{IsPassOfBench}
use Rattle.workers.specs.declared.crew.Task.{Task}
use Rattle.workers.specs.declared.worker.Worked.{Worked}
use Rattle.workers.specs.Works.{Works}

module _ {L : Type 0} where
  -- the worker may work at this bench
  pub record MayWork (bench : Bench) (task : Task L) : Type 0 where
    pub pass : IsPassOfBench bench task.pass × ((view task.pass).puts ≡ false)
        × (0 < pass_parts task.pass)
    pub taken : NumbersRise (view task.pass).taken
        × (end_after 0 (view task.pass).taken ≤ length bench.job.now.programs.items)
    pub share : (0 < parts task.share) × EachAtMost (amounts task.share) (2 ^ 55)
    pub claims : task.claims ≤ 2 ^ 55

  abbrev pub WorksFrom : Bench → Board → Window → Task L → Worked L → Type 0
  WorksFrom bench board window task w =
      Works bench board window (view task.pass) task.share task.claims w
