use Rattle.std.proofs.Common.{◌≡◌, ◌++◌, map, take}
use Rattle.bytecode_programs.specs.Views.{slot_data}
use Rattle.cycle_window.specs.Signals.{wanted_of}
use Rattle.machine_batches.specs.Reported.{wanted_slot}
use Rattle.workers_core.proofs.program_signals.put_slots.Given as goal

-- the signals so far
abbrev pub invariant-loop-slot : goal.invariant-loop-slot
invariant-loop-slot l =
    map wanted_of l.signals.items ≡ map wanted_of l.fn.signals.items
    ++ map wanted_slot (map slot_data (take l.slot-index l.slots))
