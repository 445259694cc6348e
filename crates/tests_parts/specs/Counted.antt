-- What one walk makes of the records of a pool.
use Rattle.std.specs.Prelude.{ℕ, ◌-◌, List, [], ◌∷◌, nat_eq, cond}

-- each record less by one, without those that are 0
unfoldable pub counted_down : List (ℕ × ℕ) → List (ℕ × ℕ)
counted_down [] = []
counted_down (entry ∷ rest) =
    cond (nat_eq entry.1 0) (counted_down rest) ((entry.0, entry.1 - 1) ∷ counted_down rest)
