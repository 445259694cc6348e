-- The values that places hold.
use Rattle.std.specs.Prelude.{◌≡◌, ℕ, ◌+◌, List, [], ◌∷◌, ◌++◌, length, take, drop, map, Option}
use Rattle.std.specs.Prelude.{Some, None, replicate}
use Rattle.raw_places.specs.Filled.{values_of}

-- the places at the end that stay empty
abbrev pub spare : List (Option ℕ)
spare = replicate 8 None

-- each place holds a value, but for the spare ones
abbrev pub AllHeld : List (Option ℕ) → Type 0
AllHeld places = places ≡ map Some (values_of places) ++ spare

-- a row of values stands in the places from a place on, and the others are as they were
abbrev pub IsRowWritten : ℕ → List ℕ → List (Option ℕ) → List (Option ℕ) → Type 0
IsRowWritten at row old new = new ≡ take at old ++ map Some row ++ drop (at + length row) old
