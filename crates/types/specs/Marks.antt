-- Tests on the names that a sequence uses.
use Rattle.std.specs.Prelude.{ℕ, List, [], ◌∷◌, Bool, false, ◌||◌, ◌==◌, slice_index_or, nat_lt}
use Rattle.std.specs.Prelude.{true, ◌&&◌}

-- whether one of the numbers passes
abbrev pub some_use : (ℕ → Bool) → List ℕ → Bool
some_use test [] = false
some_use test (p ∷ ps) = test p || some_use test ps

-- a place with a mark
abbrev pub mark_at : List Bool → ℕ → Bool
mark_at marks p = slice_index_or marks p false

-- the goal, or a place with a mark
abbrev pub leads_to_goal : List Bool → ℕ → ℕ → Bool
leads_to_goal marks goal p = (p == goal) || mark_at marks p

-- whether each of the numbers is below the count
abbrev pub all_below : ℕ → List ℕ → Bool
all_below count [] = true
all_below count (p ∷ ps) = nat_lt p count && all_below count ps
