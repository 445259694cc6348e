-- A walk over the live records of a pool.
use Rattle.std.specs.Prelude.{◌≡◌, ℕ, List, [], ◌∷◌, ◌++◌, Option, Some, None, nat_eq, cond, length}
use Rattle.std.specs.List.{IsDistinct}
use Rattle.std.specs.Map.{keys_of}
use Rattle.attempt_pool.specs.Pooled.{first_slot}

module _ {T : Type 0} where
  -- the walk stands at this slot, or at none once it is over: done lies after it, and rest begins
  -- with it
  pub record WalkIsAt (live : List (ℕ × T)) (at : Option ℕ)
      (done rest : List (ℕ × T)) : Type 0 where
    pub all : live ≡ done ++ rest
    pub slot : at ≡ first_slot rest
    pub distinct : IsDistinct nat_eq (keys_of live)

  -- how many records there are from this slot on
  unfoldable pub from_slot : ℕ → List (ℕ × T) → ℕ
  from_slot slot [] = 0
  from_slot slot (entry ∷ rest) =
      cond (nat_eq slot entry.0) (length (entry ∷ rest)) (from_slot slot rest)

  -- how many records are left where the walk stands, which falls with each step
  unfoldable pub left_at : Option ℕ → List (ℕ × T) → ℕ
  left_at None live = 0
  left_at (Some slot) live = from_slot slot live
