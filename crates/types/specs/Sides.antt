-- What is known of the sides of assertions.
use Rattle.std.specs.Prelude.{◌≡◌, ℕ, ◌≤◌, min, List, [], ◌∷◌, ◌++◌, Option, Some, None, Bool}
use Rattle.std.specs.Prelude.{nat_lt, not, ◌&&◌, ◌||◌, if◌then◌else◌, true, false, Box}
use Rattle.std.specs.declared.alloc.Global.{Global}
use Rattle.std.specs.List.{AllZip, AllByRecursion}
use Rattle.assertions.specs.declared.sequence.Boolean.{Boolean}
use Rattle.assertions.specs.declared.sequence.Sequence.{Sequence}
use Rattle.assertions.specs.Written.{Written, weight, IsOrdered}
use Rattle.assertions.specs.Shapes.{written_form}
use Rattle.assertions.specs.Emptiness.{admits_empty, takes_ticks}
use Rattle.types.specs.declared.entry.Entry.{Entry}
use Rattle.types.specs.Entries.{IsTheEntryOf}
use Rattle.types.specs.Drafts.{Draft, IsWrittenOut}
use Rattle.types.specs.declared.side.Side.{Side}
use Rattle.types.specs.declared.resolved.Resolved.{Resolved}
use Rattle.types.specs.Readings.{Dot}
use Rattle.types.specs.Faults as faults

-- What a side's outline says with the names written out, of which these are the weight, up to 128,
-- and what its form tells.
pub record IsWeighed (bodies : List (Draft Dot)) (side : faults.Side) (seen : Side) : Type 0 where
  pub meant : Written Dot
  pub spells : IsWrittenOut bodies side.outline meant
  pub ordered : IsOrdered meant
  pub weighs : seen.facts.weight ≡ min (weight meant) 128
  pub empty : seen.facts.empty ≡ admits_empty meant
  pub ticks : seen.facts.weight ≤ 127 → seen.ticks ≡ takes_ticks meant
  pub first : seen.first ≡ side.first
  pub byte : seen.at ≡ side.byte

-- the same of several, in their order
abbrev pub AreWeighed : List (Draft Dot) → List faults.Side → List Side → Type 0
AreWeighed bodies = AllZip (IsWeighed bodies)

-- none weighs more than 127
abbrev pub AreLight : List Side → Type 0
AreLight = AllByRecursion (λ y. y.facts.weight ≤ 127)

-- the bytes of those that pass a test
abbrev pub places_where : (Side → Bool) → List Side → List ℕ
places_where test [] = []
places_where test (y ∷ ys) =
    if test y then y.at ∷ places_where test ys else places_where test ys

-- it weighs over 127, it takes no tick or only its first match counts and is empty, it matches an
-- empty segment
abbrev pub is_wide : Side → Bool
is_wide y = nat_lt 127 y.facts.weight

abbrev pub is_degenerate : Side → Bool
is_degenerate y = not y.ticks || (y.first && y.facts.empty)

abbrev pub is_side_empty : Side → Bool
is_side_empty y = y.facts.empty

-- It is the entry of something; those of both sides are.
pub record IsKnownEntry (e : Entry) : Type 0 where
  pub meant : Written Boolean
  pub entry : IsTheEntryOf meant e

pub record SidesKnown (m : Resolved) : Type 0 where
  pub antecedent : IsKnownEntry m.antecedent
  pub consequent : IsKnownEntry m.consequent

abbrev pub AreKnownEntries : List Resolved → Type 0
AreKnownEntries = AllByRecursion SidesKnown

-- whether its sequence matches a tick or more, which is told of what weighs at most 127
abbrev pub sequence_ticks : Option (Box Sequence Global) → Bool
sequence_ticks None = true
sequence_ticks (Some x) = takes_ticks (written_form x.value)

abbrev pub entry_ticks : Entry → Bool
entry_ticks e = if nat_lt 127 e.facts.weight then true else sequence_ticks e.sequence

-- what is known of a side by its entry
abbrev pub side_of : Entry → Bool → ℕ → Side
side_of e first at = record { facts = e.facts; ticks = entry_ticks e; first = first; at = at }

-- what is known of its sides, the antecedent only where one is written
abbrev pub side_at : Entry → Bool → Option ℕ → List Side
side_at e first None = []
side_at e first (Some at) = side_of e first at ∷ []

abbrev pub consequent_side : Resolved → Side
consequent_side m = side_of m.consequent false m.consequent_at

abbrev pub sides_in : List Resolved → List Side
sides_in [] = []
sides_in (m ∷ ms) =
    (side_at m.antecedent m.first m.antecedent_at ++ consequent_side m ∷ []) ++ sides_in ms

abbrev pub consequents_in : List Resolved → List Side
consequents_in [] = []
consequents_in (m ∷ ms) = consequent_side m ∷ consequents_in ms
