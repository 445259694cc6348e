use Rattle.std.proofs.Common.{map}
use Rattle.bytecode.specs.Reading.{many_at, slot_at}
use Rattle.bytecode_programs.specs.Views.{slot_data}
use Rattle.bytecode.proofs.LoopLaws.{Turns}
use Rattle.bytecode.proofs.list_reading.slots_at.Given as goal

abbrev pub invariant-loop : goal.invariant-loop
invariant-loop l =
    Turns slot_at l.count l.counter (map slot_data l.found.items) l.rest (many_at slot_at l.count l.fn.bytes)
