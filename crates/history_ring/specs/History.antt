-- What a ring is to who uses it: its last rows.
use Rattle.std.specs.Prelude.{◌≡◌, ℕ, ◌+◌, List, [], ◌∷◌, ◌++◌, take, replicate, get_or, refl}
use Rattle.std.specs.Coded.{Coded, code_by, coded×, coded_ℕ, coded_list}

-- `depth + 1` rows of `slots` values, newest first
pub record History : Type 0 where
  pub depth : ℕ
  pub slots : ℕ
  pub rows : List (List ℕ)

-- a history is stored as the tuple of its fields
abbrev pub history_code : Coded History
history_code =
    code_by (ℕ × (ℕ × List (List ℕ)))
    (coded× coded_ℕ (coded× coded_ℕ (coded_list (coded_list coded_ℕ))))
    (λ h. (h.depth, (h.slots, h.rows)))
    (λ p. record { depth = p.0; slots = p.1.0; rows = p.1.1 }) (λ _. refl)

-- a row of zeros
abbrev pub zeros : ℕ → List ℕ
zeros slots = replicate slots 0

-- no row was pushed
abbrev pub cleared : ℕ → ℕ → History
cleared depth slots = record {
  depth = depth;
  slots = slots;
  rows = replicate (depth + 1) (zeros slots);
}

-- the row is the newest, and the oldest is gone
abbrev pub pushed : History → List ℕ → History
pushed h row = record { depth = h.depth; slots = h.slots; rows = row ∷ take h.depth h.rows }

-- the last rows of a list that has all rows that were pushed, newest first, with zeros before the
-- first
abbrev pub last_rows : ℕ → ℕ → List (List ℕ) → List (List ℕ)
last_rows depth slots all = take (depth + 1) (all ++ replicate (depth + 1) (zeros slots))

-- a cleared history is that of no rows, and a push is that of one row more
pub record KeepsLastRows : Type 0 where
  pub at_first : (depth slots : ℕ) → (cleared depth slots).rows ≡ last_rows depth slots []
  pub more : (depth slots : ℕ) (all : List (List ℕ)) (row : List ℕ)
      → row ∷ take depth (last_rows depth slots all) ≡ last_rows depth slots (row ∷ all)
