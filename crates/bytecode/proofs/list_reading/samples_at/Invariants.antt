use Rattle.bytecode.specs.Reading.{many_at, sample_at}
use Rattle.bytecode.proofs.LoopLaws.{Turns}
use Rattle.bytecode.proofs.list_reading.samples_at.Given as goal

abbrev pub invariant-loop : goal.invariant-loop
invariant-loop l = Turns sample_at l.count l.counter l.found.items l.rest (many_at sample_at l.count l.fn.bytes)
