use Rattle.std.proofs.Common.{ℕ, ◌≡◌, ◌+◌, length}
use Rattle.assertions.specs.Quantifiers.{first_in}
use Rattle.assertions.specs.Attempts.{decision}
use Rattle.assertions.specs.Shapes.{shape, value_in}
use Rattle.assertions.specs.Verdicts.{antecedent_of}
use Rattle.expressions.specs.Rows.{samples_of}
use Rattle.judging.specs.Tables.{HasSeen}
use Rattle.judging.proofs.course.course_of.Given as goal

-- what is left decides
abbrev pub invariant-loop-below : goal.invariant-loop-below
invariant-loop-below l =
    let value = value_in l.suite.booleans.items l.assertion.booleans.items (samples_of l.rows) in
    let find = λ (n : ℕ). decision value (antecedent_of l.assertion) (shape l.assertion.consequent) n l.start in
    record {
      seen : HasSeen value l.start l.seen.values;
      long : l.start + 1 + length l.seen.values ≡ l.below;
      found : first_in l.below l.below-end find ≡ first_in (l.start + 1) l.below-end find;
    }
