-- Which places of signals, or of counters, are read; the places themselves, and their slots.
use Rattle.std.specs.Prelude.{◌≡◌, ◌↔◌, ℕ, ◌+◌, ◌<◌, Bool, true, false, List, [], ◌∷◌, length}
use Rattle.std.specs.Prelude.{slice_set, slice_get, Some, Contains}
use Rattle.expressions.specs.declared.name.Origin.{Origin}
use Rattle.expressions.specs.declared.name.Origin.TheVariants.{Signal, Counter}
use Rattle.expressions.specs.declared.name.Name.{Name}

-- A name of this origin, at this place, is among them.
pub record IsAmong (origin : Origin) (names : List Name) (place : ℕ) : Type 0 where
  pub name : Name
  pub among : Contains names name
  pub origin_is : name.origin ≡ origin
  pub place_is : name.place ≡ place

-- for each of so many places, whether such a name is among them
pub record AreMarks (origin : Origin) (names : List Name) (count : ℕ) (marks : List Bool) :
    Type 0 where
  pub long : length marks ≡ count
  pub each : (place : ℕ) → place < count →
      slice_get marks place ≡ Some true ↔ IsAmong origin names place

abbrev pub is_marked : Bool → Bool
is_marked mark = mark

-- the places that are marked, from a place on, in rising order
abbrev pub places_from : ℕ → List Bool → List ℕ
places_from place [] = []
places_from place (true ∷ marks) = place ∷ places_from (place + 1) marks
places_from place (false ∷ marks) = places_from (place + 1) marks

-- The slots of places, from a slot on: one after another where they are marked, and 0 elsewhere.
abbrev pub slots_from : ℕ → List Bool → List ℕ
slots_from slot [] = []
slots_from slot (true ∷ marks) = slot ∷ slots_from (slot + 1) marks
slots_from slot (false ∷ marks) = 0 ∷ slots_from slot marks

abbrev pub same_origin : Origin → Origin → Bool
same_origin Signal Signal = true
same_origin Counter Counter = true
same_origin Signal Counter = false
same_origin Counter Signal = false

-- a name is marked where it is of the origin
abbrev pub mark_if : Bool → List Bool → ℕ → List Bool
mark_if true marks place = slice_set marks place true
mark_if false marks place = marks

abbrev pub mark_all : Origin → List Bool → List Name → List Bool
mark_all origin marks [] = marks
mark_all origin marks (name ∷ names) =
    mark_all origin (mark_if (same_origin name.origin origin) marks name.place) names
