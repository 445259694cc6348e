-- Some of a list, by places.
use Rattle.std.specs.Prelude.{◌≡◌, ℕ, ◌<◌, List, length, map, get_or}

-- what stands at the places
unfoldable pub picked : List ℕ → List ℕ → List ℕ
picked list picks = map (λ i. get_or list i 0) picks

-- the places are below a length
abbrev pub AreBelow : ℕ → List ℕ → Type 0
AreBelow long picks = (i : ℕ) → i < length picks → get_or picks i 0 < long

-- the places at which the wanted ones stand
pub record ArePicks (list picks wanted : List ℕ) : Type 0 where
  pub below : AreBelow (length list) picks
  pub stand : picked list picks ≡ wanted
