use Rattle.bytecode.specs.Reading.{many_at, step_at}
use Rattle.bytecode.proofs.LoopLaws.{Turns}
use Rattle.bytecode.proofs.list_reading.steps_at.Given as goal

abbrev pub invariant-loop : goal.invariant-loop
invariant-loop l = Turns (step_at l.first) l.count l.counter l.found.items l.rest
    (many_at (step_at l.first) l.count l.fn.bytes)
