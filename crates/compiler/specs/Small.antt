-- Small assertions: they always have a program.
use Rattle.std.specs.Prelude.{◌≡◌, ℕ, ◌≤◌, Bool, List, length, sum_by, Contains}
use Rattle.std.specs.List.{AllByRecursion}
use Rattle.expressions.specs.declared.name.Origin.TheVariants.{Signal}
use Rattle.expressions.specs.declared.name.Name.{Name}
use Rattle.assertions.specs.declared.assertion.Assertion.{Assertion}
use Rattle.assertions.specs.declared.suite.Suite.{Suite}
use Rattle.assertions.specs.Written.{Written, weight}
use Rattle.assertions.specs.Shapes.{written_form}
use Rattle.assertions.specs.Reads.{boolean_names}
use Rattle.compiler.specs.Laws.{EachPart, IsNoChange, size}
use Rattle.positions.specs.Laws.{IsPlain, booleans}
use Rattle.compiler.specs.Readings.{IsReading, boolean_terms}
use Rattle.compiler.specs.Faults.{HasLongCode}

-- No `and`, no `intersect`, no delay between two parts that may be 0, a weight of at most 60 and at
-- most 32 booleans; the 1 of |=> is one more of each.
pub record IsSmallSide {B : Type 0} (w : Written B) : Type 0 where
  pub plain : IsPlain w
  pub light : weight w ≤ 61
  pub few : booleans w ≤ 33

-- Both sides are small; at most 32 booleans with at most 512 operators and operands, none of them
-- a counter, and no call that compares with the tick before. Here a concatenation of n parts has
-- n - 1 operators; where it counts as one, 256 operators and operands are at most 512 of these.
pub record IsSmall (suite : Suite) (a : Assertion) : Type 0 where
  pub antecedent : IsSmallSide (written_form a.antecedent)
  pub consequent : IsSmallSide (written_form a.consequent)
  pub few : length a.booleans.items ≤ 32
  pub short : sum_by size (boolean_terms suite a) ≤ 512
  pub still : AllByRecursion (EachPart IsNoChange) (boolean_terms suite a)
  pub signals : (n : Name) → Contains (boolean_names suite a) n → n.origin ≡ Signal

-- No part of the program of a small assertion is long: K2 never comes.
abbrev pub SmallHaveCode : Type 0
SmallHaveCode =
    (suite : Suite) (a : Assertion) (signals counters : List Bool) →
    IsReading suite a signals counters → IsSmall suite a →
    HasLongCode suite a signals counters → ⊥
