-- The next counter to look at.
use Rattle.std.specs.Prelude.{◌≡◌, ℕ, ◌<◌, ◌≤◌, true, false, Bool, List, length, Some}
use Rattle.std.specs.Prelude.{slice_get}
use Rattle.expressions.specs.declared.name.Name.{Name}
use Rattle.assertions.specs.Reads.{waits}

-- no name waits, of those from a place on
abbrev pub NoneFrom : List Bool → ℕ → List Name → Type 0
NoneFrom done from names =
    (k : ℕ) (name : Name) → from ≤ k → slice_get names k ≡ Some name → waits done name ≡ false

-- the first that waits, from a place on
pub record IsNext (done : List Bool) (from : ℕ) (names : List Name) (at : ℕ) : Type 0 where
  pub name : Name
  pub is : slice_get names at ≡ Some name
  pub past : from ≤ at
  pub inside : at < length names
  pub waiting : waits done name ≡ true
  pub none : (k : ℕ) (other : Name) → from ≤ k → k < at → slice_get names k ≡ Some other →
      waits done other ≡ false
