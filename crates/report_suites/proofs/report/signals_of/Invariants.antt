use Rattle.std.proofs.Common.{◌≡◌, map, take}
use Rattle.cycle_window.specs.Signals.{wanted_of}
use Rattle.report_suites.specs.Named.{wanted_in_suite}
use Rattle.report_suites.proofs.report.signals_of.Given as goal

-- the signals so far
abbrev pub invariant-loop-name : goal.invariant-loop-name
invariant-loop-name l =
    map wanted_of l.signals.items ≡ map wanted_in_suite (take l.name-index l.names)
