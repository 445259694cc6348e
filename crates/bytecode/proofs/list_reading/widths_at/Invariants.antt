use Rattle.bytecode.specs.Reading.{many_at, width_at}
use Rattle.bytecode.proofs.LoopLaws.{Turns}
use Rattle.bytecode.proofs.list_reading.widths_at.Given as goal

abbrev pub invariant-loop : goal.invariant-loop
invariant-loop l = Turns width_at l.count l.counter l.found.items l.rest (many_at width_at l.count l.fn.bytes)
