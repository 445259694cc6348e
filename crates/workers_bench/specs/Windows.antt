-- The windows of a job.
use Rattle.std.specs.Prelude.{◌≡◌, Some, None, map}
use Rattle.vcd_reader.specs.Held.{variables_of}
use Rattle.cycle_window.specs.declared.window.Window.{Window}
use Rattle.cycle_window.specs.Bound.{places_of, first_refused}
use Rattle.cycle_window.specs.Held.{columns_in, places_in, IsWindowOf}
use Rattle.workers_core.specs.declared.job.Job.{Job}
use Rattle.workers_core.specs.Wanted.{wanted_in}

-- a window over the rows of all programs' signals
pub record IsWindowFor (j : Job) (w : Window) : Type 0 where
  pub of : IsWindowOf w j.dump j.clocks
  pub places : map Some (places_in (columns_in w))
      ≡ places_of (variables_of j.dump) (wanted_in j.programs.items)
  pub fits : first_refused (variables_of j.dump) (wanted_in j.programs.items) ≡ None
