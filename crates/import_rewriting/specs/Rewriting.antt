-- When an assertion of the profile is the rewriting of a property.
use Rattle.std.specs.Prelude.{◌⊎◌, ℕ, ◌+◌, ◌-◌, ◌<◌, ◌≤◌, Bool, ◌↔◌}
use Rattle.import_properties.specs.declared.condition.Condition.{Condition}
use Rattle.import_properties.specs.declared.condition.Condition.TheVariants.{One}
use Rattle.import_properties.specs.declared.property.Property.{Property}
use Rattle.import_properties.specs.declared.property.Property.TheVariants as tree
use Rattle.import_properties.specs.Conditions.{value_of}
use Rattle.import_properties.specs.Properties.{Form, form_of, negated, either, sequence, implied}
use Rattle.import_properties.specs.Properties.{each_later}
use Rattle.import_properties.specs.Outcomes.{ComesTo, ComesToSame, ComesToSameWithin, Outcome}
use Rattle.import_properties.specs.Outcomes.{IsDecidedSo}
use Rattle.import_rewriting.specs.declared.sense.Sense.{Sense}
use Rattle.import_rewriting.specs.Sides.{Says, IsAntecedent, IsConsequent}
use Rattle.import_rewriting.specs.Senses.{in_sense}
use Rattle.assertions.specs.Written.{Written, kernel}

-- It has a form with no last tick of its own: `until`.
abbrev pub IsOpen : Property → Type 0
IsOpen (tree.Sequence s) = ⊥
IsOpen (tree.Not' x p) = IsOpen p
IsOpen (tree.And' x p y q) = IsOpen p ⊎ IsOpen q
IsOpen (tree.Or' x p y q) = IsOpen p ⊎ IsOpen q
IsOpen (tree.Implication' r x p) = IsOpen p
IsOpen (tree.NextImplication' r x p) = IsOpen p
IsOpen (tree.FollowedBy' r x p) = IsOpen p
IsOpen (tree.NextFollowedBy' r x p) = IsOpen p
IsOpen (tree.If' b x p) = IsOpen p
IsOpen (tree.IfElse' b x p y q) = IsOpen p ⊎ IsOpen q
IsOpen (tree.Implies' x p y q) = IsOpen p ⊎ IsOpen q
IsOpen (tree.Iff' x p y q) = IsOpen p ⊎ IsOpen q
IsOpen (tree.Next' n x p) = IsOpen p
IsOpen (tree.Always' least most x p) = IsOpen p
IsOpen (tree.Eventually' least most x p) = IsOpen p
IsOpen (tree.Until' x p y q) = Unit {0}
IsOpen (tree.UntilWith' x p y q) = Unit {0}

-- As many ticks are seen from the first one as an open property waits, or as one likes.
abbrev pub IsWithin : ℕ → Property → ℕ → Type 0
IsWithin bound property ticks = IsOpen property → ticks ≤ bound

-- a |-> s in the profile fails where p does, and holds, vacuously or not, where p is good: after
-- the same numbers of ticks, so long as no more than so many are seen.
abbrev pub Rewrites : ℕ → Form Condition → Written Condition → Written Condition → Type 0
Rewrites ticks p a s =
    (leaves : ℕ → ℕ → Bool) (n : ℕ) (o : Outcome) (c : ℕ) → c < n → n ≤ c + ticks
    → ComesTo (value_of leaves) n p o c
    ↔ IsDecidedSo (value_of leaves) (kernel One a) (kernel One s) n o c

-- A sequence says the property in a sense.
abbrev pub SaysIn : Sense → ℕ → Property → Written Condition → Type 0
SaysIn sense bound property w =
    (ticks : ℕ) → IsWithin bound property ticks
    → Says ticks (in_sense sense (form_of property)) w

-- It says in a sense that the first property implies the second.
abbrev pub SaysImplies : Sense → ℕ → Property → Property → Written Condition → Type 0
SaysImplies sense bound first second w =
    (ticks : ℕ) → IsWithin bound first ticks → IsWithin bound second ticks
    → Says ticks (in_sense sense (either (negated (form_of first)) (form_of second))) w

-- Its ends are those of t, so many ticks after one of r: whatever then must be.
abbrev pub EndsLater :
    Written Condition → ℕ → ℕ → Written Condition → Written Condition → Type 0
EndsLater r least most t a =
    (p : Form Condition)
    → ComesToSame (implied (kernel One r)
    (each_later least (most - least) (implied (kernel One t) p)))
    (implied (kernel One a) p)

-- a |-> s in the profile says what r |-> p does.
abbrev pub SaysAfter :
    ℕ → Written Condition → Form Condition → Written Condition → Written Condition → Type 0
SaysAfter ticks r p a s =
    ComesToSameWithin ticks (implied (kernel One r) p)
    (implied (kernel One a) (sequence (kernel One s)))

-- The two sides can be sides of an assertion, and say what is meant after another antecedent.
pub record AreSides (bound : ℕ) (r : Written Condition) (property : Property)
    (a s : Written Condition) : Type 0 where
  pub antecedent : IsAntecedent a
  pub consequent : IsConsequent s
  pub same : (ticks : ℕ) → IsWithin bound property ticks → SaysAfter ticks r (form_of property) a s

-- The same of: so many ticks after each end of r, t |-> property.
pub record AreSidesLater (bound : ℕ) (r : Written Condition) (least most : ℕ)
    (t : Written Condition)
    (property : Property) (a s : Written Condition) : Type 0 where
  pub antecedent : IsAntecedent a
  pub consequent : IsConsequent s
  pub same :
      (ticks : ℕ) → IsWithin bound property ticks
      → SaysAfter ticks r (each_later least (most - least)
      (implied (kernel One t) (form_of property)))
      a s

-- The two sides can be sides of an assertion, which is the rewriting of the property.
pub record IsRewriting (bound : ℕ) (property : Property) (a s : Written Condition) : Type 0 where
  pub antecedent : IsAntecedent a
  pub consequent : IsConsequent s
  pub exact : (ticks : ℕ) → IsWithin bound property ticks → Rewrites ticks (form_of property) a s
