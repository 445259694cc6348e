-- Laws that show that the definitions mean what they should.
use Rattle.std.specs.Prelude.{◌≤◌, ℕ, ◌+◌, Bool}
use Rattle.assertions.specs.Segments.{Matches, Seq}
use Rattle.assertions.specs.Written.{Written, kernel, IsOrdered}
use Rattle.import_properties.specs.declared.condition.Condition.{Condition}
use Rattle.import_properties.specs.declared.condition.Condition.TheVariants.{One}
use Rattle.import_properties.specs.Outcomes.{ComesToSame}
use Rattle.import_properties.specs.Properties.{Form, both, implied, later, each_later}
use Rattle.import_checks.specs.Lengths.{fewest_ticks, most_ticks}

-- A match takes as many ticks as its form says, whatever is true at which tick.
abbrev pub MatchesAreSoLong : Type 0
MatchesAreSoLong =
    (holds : Condition → ℕ → Bool) (w : Written Condition) (i j : ℕ) → IsOrdered w
    → Matches holds (kernel One w) i j → (i + fewest_ticks w ≤ j) × (j ≤ i + most_ticks w)

-- What is asked of two properties at each end of a sequence, some ticks later, or at each tick of
-- a range, comes to what it does of both.
abbrev pub IsAskedOfBoth : (Form Condition → Form Condition) → Type 0
IsAskedOfBoth asked =
    (p q : Form Condition) → ComesToSame (asked (both p q)) (both (asked p) (asked q))

abbrev pub EndsAskOfBoth : Type 0
EndsAskOfBoth = (r : Seq Condition) → IsAskedOfBoth (λ p. implied r p)

abbrev pub TicksAskOfBoth : Type 0
TicksAskOfBoth = (n : ℕ) → IsAskedOfBoth (λ p. later n p)

abbrev pub RangesAskOfBoth : Type 0
RangesAskOfBoth = (first more : ℕ) → IsAskedOfBoth (λ p. each_later first more p)
