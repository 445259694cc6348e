use Rattle.std.proofs.Common.{◌≡◌, map, take}
use Rattle.bytecode_programs.specs.Views.{slot_data}
use Rattle.bytecode_programs.proofs.copy.copy_slots.Given as goal

abbrev pub invariant-loop-slot : goal.invariant-loop-slot
invariant-loop-slot l = map slot_data l.copied.items ≡ map slot_data (take l.slot-index l.slots)
