-- The outline of a sequence: its forms, their counts and how they group, with a dot for each
-- boolean; of one that is written, and of one that tokens spell.
use Rattle.std.specs.Prelude.{ℕ, Option, Some, None}
use Rattle.parser_grammar.specs.declared.bound.Bound.{Bound}
use Rattle.parser_grammar.specs.declared.bound.Range.{Range}
use Rattle.parser_grammar.specs.declared.operator.Junction.{Junction}
use Rattle.parser_grammar.specs.declared.operator.Junction.TheVariants.{Intersect, And, Or}
use Rattle.parser_grammar.specs.Trees as trees
use Rattle.parser_grammar.specs.Trees.{SequenceForm, Steps, no_step, step, Others, no_other, other}
use Rattle.assertions.specs.Written.{Written, boolean, delay, lead, repeat, or, and, intersect}
use Rattle.assertions.specs.Written.{throughout}

-- where a boolean stands
pub data Dot : Type 0 where
  dot : Dot

abbrev pub outline : {B : Type 0} → Written B → Written Dot
outline (boolean b) = boolean dot
outline (delay r least most s) = delay (outline r) least most (outline s)
outline (lead least most s) = lead least most (outline s)
outline (repeat r least most) = repeat (outline r) least most
outline (or r s) = or (outline r) (outline s)
outline (and r s) = and (outline r) (outline s)
outline (intersect r s) = intersect (outline r) (outline s)
outline (throughout b r) = throughout dot (outline r)

abbrev pub least_of : Range → ℕ
least_of range = range.low.value

abbrev pub value_or : ℕ → Option Bound → ℕ
value_or least None = least
value_or least (Some high) = high.value

abbrev pub most_of : Range → ℕ
most_of range = value_or range.low.value range.high

abbrev pub joined_by : Junction → Written Dot → Written Dot → Written Dot
joined_by Intersect r s = intersect r s
joined_by And r s = and r s
joined_by Or r s = or r s

-- Delays, and the sides of "intersect", "and" and "or", group to the left.
unfoldable mutual
  pub spelled_outline : SequenceForm → Written Dot
  spelled_outline (trees.boolean tree) = boolean dot
  spelled_outline (trees.repeated q n) = repeat (spelled_outline q) (least_of n) (most_of n)
  spelled_outline (trees.late t n q) = lead (least_of n) (most_of n) (spelled_outline q)
  spelled_outline (trees.delayed q steps) = outline_after (spelled_outline q) steps
  spelled_outline (trees.throughout tree q) = throughout dot (spelled_outline q)
  spelled_outline (trees.joined j q others) = outline_beside j (spelled_outline q) others

  -- a sequence, and each delay with what it delays
  pub outline_after : Written Dot → Steps → Written Dot
  outline_after r no_step = r
  outline_after r (step n q steps) =
      outline_after (delay r (least_of n) (most_of n) (spelled_outline q)) steps

  -- a sequence, and each further side
  pub outline_beside : Junction → Written Dot → Others → Written Dot
  outline_beside j r no_other = r
  outline_beside j r (other q others) =
      outline_beside j (joined_by j r (spelled_outline q)) others
