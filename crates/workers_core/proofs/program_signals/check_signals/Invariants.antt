use Rattle.std.proofs.Common.{◌≡◌, map, drop}
use Rattle.vcd_reader.specs.Held.{variables_of}
use Rattle.cycle_window.specs.Bound.{first_refused}
use Rattle.cycle_window.specs.Signals.{wanted_of}
use Rattle.workers_core.proofs.program_signals.check_signals.Given as goal

-- the signals that are left decide
abbrev pub invariant-loop-signal : goal.invariant-loop-signal
invariant-loop-signal l =
    first_refused (variables_of l.dump) (map wanted_of l.signals)
    ≡ first_refused (variables_of l.dump) (map wanted_of (drop l.signal-index l.signals))
