-- Windows that are filled beside a round.
use Rattle.std.specs.Prelude.{◌<◌}
use Rattle.cycle_window.specs.declared.window.Window.{Window}
use Rattle.cycle_window.specs.Held.{size_in, end_in}
use Rattle.workers_bench.specs.Windows.{IsWindowFor}
use Rattle.workers.specs.declared.filling.Filling.{Filling}
use Rattle.workers.specs.Between.{IsFilledFrom, clocks_of}

-- both windows are the job's
abbrev pub may_fill : Filling → Type 0
may_fill f = IsWindowFor f.job.now f.window × IsWindowFor f.job.now f.before.now

-- the window has the clocks after those of the other one, where there are such
abbrev pub filled_by : Filling → Window → Type 0
filled_by f w =
    end_in f.before.now < clocks_of f.job.now
    → IsFilledFrom f.job.now (end_in f.before.now) (size_in f.window) w
