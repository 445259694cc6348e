-- Sequences whose booleans are numbered for one assertion.
use Rattle.std.specs.Prelude.{◌≡◌, ◌⊎◌, ℕ, ◌++◌, List, length, Bool, true, slice_get}
use Rattle.expressions.specs.declared.expr.Expr.{Expr}
use Rattle.expressions.specs.Terms.{Samples}
use Rattle.assertions.specs.declared.sequence.Boolean.{Boolean}
use Rattle.assertions.specs.declared.sequence.Boolean.TheVariants.{One, Listed}
use Rattle.assertions.specs.Segments.{sat}
use Rattle.assertions.specs.Written.{Written, kernel, weight, IsOrdered}
use Rattle.assertions.specs.Shapes.{is_true_at, value_in}
use Rattle.assertions.specs.Listed.{EachBoolean, IsUsed, IsListed}
use Rattle.types.specs.Drafts.{IsNumberIn}
use Rattle.types.specs.Entries.{Alike}
use Rattle.types.specs.Leaves.{sequence_places, form_of}

-- whether a boolean that has its place among a suite's expressions is true at a tick
abbrev pub atom_true : List Expr → Samples → Boolean → ℕ → Bool
atom_true booleans t One k = true
atom_true booleans t (Listed p) k = is_true_at t (slice_get booleans p) k

-- The second matches by an assertion's list of places what the first matches by the places among
-- the suite's expressions, however much was seen.
abbrev pub MatchesByPlaces : List Expr → List ℕ → Written Boolean → Written Boolean → Type 0
MatchesByPlaces booleans places w u =
    (t : Samples) (n : ℕ) → Alike (sat (atom_true booleans t) n)
    (sat (value_in booleans places t) n) (kernel One w) (kernel One u)

-- the same of one boolean
abbrev pub IsPlacedBoolean : List Expr → List ℕ → Boolean → Boolean → Type 0
IsPlacedBoolean booleans places a b =
    (t : Samples) (k : ℕ) → atom_true booleans t a k ≡ value_in booleans places t b k

-- more after what was there
pub record ExtendsPlaces {A : Type 0} (before after : List A) : Type 0 where
  pub added : List A
  pub is : after ≡ before ++ added

-- Each boolean of the sequence is the constant 1 or has its place in the list.
abbrev pub AllListed : List ℕ → Written Boolean → Type 0
AllListed places w = EachBoolean (IsListed (length places)) w

-- Each place after was there before, or one of the sequence's booleans stands at it.
abbrev pub AddsPlaces : Written Boolean → List ℕ → List ℕ → Type 0
AddsPlaces w before after = (p : ℕ) → IsNumberIn p after → IsNumberIn p before ⊎ IsUsed (Listed p) w

-- After the places that there were, each boolean of the first sequence has one of its own, by
-- which the second says the same, in the same form, and weighs as much.
pub record ArePlaced (before after : List ℕ) (w u : Written Boolean) : Type 0 where
  pub grows : ExtendsPlaces before after
  pub placed : (booleans : List Expr) (more : List ℕ) → MatchesByPlaces booleans (after ++ more) w u
  pub weighs : weight u ≡ weight w
  pub ordered : IsOrdered w → IsOrdered u
  pub listed : AllListed after u
  pub own : AddsPlaces w before after
  pub list : after ≡ before ++ sequence_places w
  pub form : form_of u ≡ form_of w
