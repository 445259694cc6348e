use Rattle.std.specs.Prelude.{◌≡◌, ◌+◌, length}
use Rattle.assertions.specs.Shapes.{value_in}
use Rattle.expressions.specs.Rows.{samples_of}
use Rattle.judging.specs.Tables.{HasSeen}
use Rattle.judging.proofs.cause.seen_between.Given as goal

abbrev pub invariant-loop-tick : goal.invariant-loop-tick
invariant-loop-tick l =
    let value = value_in l.suite.booleans.items l.assertion.booleans.items (samples_of l.rows) in
    record {
      seen : HasSeen value l.start l.seen.values;
      long : l.start + length l.seen.values ≡ l.tick;
    }
