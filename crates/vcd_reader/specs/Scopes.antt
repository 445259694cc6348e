-- How scopes stand in memory: each by its own name and by the place of the scope around it. Place 0
-- is outside of all scopes, and place k + 1 is in the scope k of the list.
use Rattle.std.specs.Prelude.{◌≡◌, ℕ, suc, ◌-◌, ◌<◌, ◌≤◌, List, [], ◌∷◌, ◌++◌, length, take, get_or}
use Rattle.std.specs.List.{flat_map}
use Rattle.vcd_reader.specs.declared.scope.Scope.{Scope}
use Rattle.vcd_reader.specs.Keys.{key_of}

-- the name, which stands before a dot
abbrev pub name_in : Scope → List ℕ
name_in s = take (length s.front.items - 1) s.front.items

-- the scopes that are open at each place, the outermost first: at the places known so far, and at
-- those of the list
unfoldable pub open_scopes_from : List (List (List ℕ)) → List Scope → List (List (List ℕ))
open_scopes_from known [] = known
open_scopes_from known (s ∷ ss) =
    open_scopes_from (known ++ (get_or known s.parent [] ++ name_in s ∷ []) ∷ []) ss

-- the scopes that are open at a place
unfoldable pub open_scopes : List Scope → ℕ → List (List ℕ)
open_scopes ss place = get_or (open_scopes_from ([] ∷ []) ss) place []

-- what stands before the names at a place
abbrev pub front_of : List Scope → ℕ → List ℕ
front_of ss place = flat_map (λ s. s ++ 46 ∷ []) (open_scopes ss place)

-- the scope in which a place is
pub record IsNode (ss : List Scope) (place : ℕ) (s : Scope) : Type 0 where
  pub below : s.parent < place
  pub opens : open_scopes ss place ≡ open_scopes ss s.parent ++ name_in s ∷ []
  pub keyed : s.key ≡ key_of (front_of ss place)
  -- a place that has the same front
  pub lower : s.first ≤ place
  pub same : front_of ss s.first ≡ front_of ss place

pub record IsTree (ss : List Scope) : Type 0 where
  pub node : (i : ℕ) (s : Scope) → i < length ss → s ≡ get_or ss i s → IsNode ss (suc i) s
