use Rattle.std.proofs.Common.{map}
use Rattle.bytecode.specs.Reading.{many_at, counted_at, step_at}
use Rattle.bytecode.proofs.LoopLaws.{items_of_block}
use Rattle.bytecode.proofs.LoopLaws.{Turns}
use Rattle.bytecode.proofs.list_reading.blocks_at.Given as goal

abbrev pub invariant-loop : goal.invariant-loop
invariant-loop l =
    Turns (counted_at (step_at l.first)) l.count l.counter (map items_of_block l.found.items) l.rest
    (many_at (counted_at (step_at l.first)) l.count l.fn.bytes)
