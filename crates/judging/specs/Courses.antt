-- What an attempt sees of rows, and how it is decided.
use Rattle.std.specs.Prelude.{◌≡◌, ℕ, ◌+◌, ◌<◌, ◌&&◌, nat_le, List, Bool, Option, length}
use Rattle.expressions.specs.declared.rows.Rows.{Rows}
use Rattle.expressions.specs.Rows.{samples_of}
use Rattle.assertions.specs.declared.assertion.Assertion.{Assertion}
use Rattle.assertions.specs.declared.decision.Decision.{Decision}
use Rattle.assertions.specs.declared.sequence.Boolean.{Boolean}
use Rattle.assertions.specs.declared.suite.Suite.{Suite}
use Rattle.assertions.specs.Shapes.{shape, value_in}
use Rattle.assertions.specs.Verdicts.{antecedent_of}
use Rattle.assertions.specs.Segments.{longest, is_match}
use Rattle.assertions.specs.Attempts.{is_leading, decision}
use Rattle.judging.specs.declared.sides.Sides.{Sides}
use Rattle.judging.specs.Tables.{marks, seen_value, held_at, IsRow, IsRelation}

-- which of an assertion's booleans are true at a tick of the rows
abbrev pub value_over : Suite → Rows → Assertion → Boolean → ℕ → Bool
value_over suite rows a = value_in suite.booleans.items a.booleans.items (samples_of rows)

-- how the attempt that begins at a tick is decided where the ticks below n were seen
abbrev pub decision_over : Suite → Rows → Assertion → ℕ → ℕ → Option Decision
decision_over suite rows a start n =
    decision (value_over suite rows a) (antecedent_of a) (shape a.consequent) n start

-- how an attempt is decided by the rows of values that it has seen
abbrev pub decision_from : List (List Bool) → Assertion → Option Decision
decision_from values a =
    decision (seen_value values) (antecedent_of a) (shape a.consequent) (length values) 0

-- Up to where the sides of an assertion match, by these values: what the antecedent matches of so
-- many places from the first one, what obligations it leaves below the last that was seen, and what
-- the consequent matches from these. No match goes beyond the places that are there.
pub record AreSides (values : List (List Bool)) (a : Assertion) (sides : Sides) : Type 0 where
  pub seen : length values < sides.count
  pub long : longest (shape a.antecedent) < sides.count
  pub wide : length values + longest (shape a.consequent) < sides.room
  pub ends : (j : ℕ) → j < sides.count
      → marks sides.ends.items j ≡ is_leading (held_at values) (antecedent_of a) 0 j
  pub obliged :
      IsRow (λ e. nat_le (e + 1) (length values) && marks sides.ends.items (e + 1)) sides.room
      sides.obligations.items
  pub consequents :
      IsRelation (is_match (held_at values) (shape a.consequent)) sides.obligations.items
      sides.consequents
