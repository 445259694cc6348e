-- How the rows of a ring lie in its block: the newest at its place, each older one after it, and
-- round the end.
use Rattle.std.specs.Prelude.{◌≡◌, ℕ, zero, suc, ◌+◌, ◌*◌, ◌≤◌, ◌⊎◌, List, [], ◌∷◌, ◌++◌, length}
use Rattle.std.specs.Prelude.{take, drop}
use Rattle.history_ring.specs.History.{History}

-- so many rows of `slots` values
abbrev pub cut_rows : ℕ → ℕ → List ℕ → List (List ℕ)
cut_rows zero slots values = []
cut_rows (suc n) slots values = take slots values ∷ cut_rows n slots (drop slots values)

-- the values from a place on, and round the end
abbrev pub turned : ℕ → List ℕ → List ℕ
turned place values = drop place values ++ take place values

unfoldable pub history_of : ℕ → ℕ → ℕ → List ℕ → History
history_of depth slots newest values = record {
  depth = depth;
  slots = slots;
  rows = cut_rows (suc depth) slots (turned (newest * slots) values);
}

-- the sizes, and that the newest row is one of the rows
pub record IsTurned (depth slots newest : ℕ) (values : List ℕ) : Type 0 where
  pub depth_at_most : depth ≤ 4096
  pub slots_at_most : slots ≤ 256
  pub inside : newest ≤ depth
  pub full : length values ≡ (depth + 1) * slots

-- the row that the next push writes: the one before, and the last from the first
pub record IsRowBefore (depth newest row : ℕ) : Type 0 where
  pub inside : row ≤ depth
  pub turns : (newest ≡ row + 1) ⊎ ((newest ≡ 0) × (row ≡ depth))

-- the row so many after the newest, round the end
pub record IsBehind (depth newest back row : ℕ) : Type 0 where
  pub inside : row ≤ depth
  pub turns : (newest + back ≡ row) ⊎ (newest + back ≡ row + (depth + 1))
