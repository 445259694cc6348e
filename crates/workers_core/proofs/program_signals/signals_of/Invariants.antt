use Rattle.std.proofs.Common.{◌≡◌, map, take}
use Rattle.cycle_window.specs.Signals.{wanted_of}
use Rattle.workers_core.specs.Wanted.{wanted_in}
use Rattle.workers_core.proofs.program_signals.signals_of.Given as goal

-- the signals of the programs so far
abbrev pub invariant-loop-verified : goal.invariant-loop-verified
invariant-loop-verified l =
    map wanted_of l.signals.items ≡ wanted_in (take l.verified-index l.programs)
