-- The laws of expressions and of counters.
use Rattle.expressions.specs.Terms.{value_of}
use Rattle.expressions.specs.Counters.{next_count}
use Rattle.compiler.specs.Codes.{code_of, need}
use Rattle.compiler.specs.Samples.{next_code, next_need, counter_terms}
use Rattle.compiler.specs.Laws.{ExpressionsLeaveValues, CountersLeaveNext}
use Rattle.compiler.proofs.Runs.{puts-leaves}
use Rattle.compiler.proofs.CounterLaws.{value-puts, next-puts, served}

pub expressions-leave-values : ExpressionsLeaveValues
expressions-leave-values f d t at s k one ticks e placed told near w le =
    puts-leaves f d s (code_of at e w 0) w (value_of t e k w) (need e)
    (value-puts f d t at s k one ticks e w
    (record { placed = placed; told = told; near = near }) le)

pub counters-leave-next : CountersLeaveNext
counters-leave-next f d t at s k one ticks h count placed told near =
    puts-leaves f d s (next_code at h) h.counter.width
    (next_count t h.counter (t.counter_at h.place k) k) (next_need h.counter)
    (next-puts f d t at s k one ticks h count
    (served f d t at s k one ticks (counter_terms h.counter) placed told near))
