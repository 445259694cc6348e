-- Signals as the definitions see them.
use Rattle.cycle_window.specs.declared.columns.WatchedSignal.{WatchedSignal}
use Rattle.cycle_window.specs.Bound.{Wanted}

abbrev pub wanted_of : WatchedSignal → Wanted
wanted_of s = record { path = s.path.now; width = s.width }
