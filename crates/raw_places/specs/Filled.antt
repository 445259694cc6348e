-- Places that all hold a value, but for spare ones at the end.
use Rattle.std.specs.Prelude.{◌≡◌, ℕ, ◌+◌, List, [], ◌∷◌, ◌++◌, map, length, Option, Some, None}
use Rattle.std.specs.Prelude.{replicate}

module _ {X : Type 0} where
  -- the values of the places that hold one
  unfoldable pub values_of : List (Option X) → List X
  values_of [] = []
  values_of (None ∷ places) = values_of places
  values_of (Some value ∷ places) = value ∷ values_of places

  -- the places at the end that stay empty
  abbrev pub spare : List (Option X)
  spare = replicate 2 None

  -- there are so many places and the spare ones, and each but those holds a value
  pub record IsFilled (places : List (Option X)) (count : ℕ) : Type 0 where
    pub long : length places ≡ count + 2
    pub all : places ≡ map Some (values_of places) ++ spare
