use Rattle.std.proofs.Common.{◌≡◌, ◌++◌, length, take, map}
use Rattle.std.specs.List.{flat_map}
use Rattle.bytecode.specs.Spelling.{two, slot_spelling}
use Rattle.bytecode_programs.specs.Views.{slot_data}
use Rattle.bytecode.proofs.list_writing.put_slots.Given as goal

abbrev pub invariant-loop-slot : goal.invariant-loop-slot
invariant-loop-slot l =
    l.out.items
    ≡ l.fn.out.items
    ++ (two (length (map slot_data l.slots)) ++ flat_map slot_spelling (map slot_data (take l.slot-index l.slots)))
