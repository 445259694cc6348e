-- What a contract sees of a pool.
use Rattle.std.specs.Prelude.{ℕ, List, [], ◌∷◌, Option, Some, None, nat_eq, cond, refl}
use Rattle.std.specs.Coded.{Coded, code_by, coded×, coded_list, coded_ℕ}

-- how many records there may be, and the live ones, each under its slot, in order of opening
pub record Pooled (T : Type 0) : Type 0 where
  pub cap : ℕ
  pub live : List (ℕ × T)

module _ {T : Type 0} where
  abbrev pub pooled : ℕ → List (ℕ × T) → Pooled T
  pooled cap live = record { cap = cap; live = live }

  -- what a contract sees is stored as the pair of its fields
  abbrev pub pooled_code : Coded T → Coded (Pooled T)
  pooled_code code = code_by (ℕ × List (ℕ × T)) (coded× coded_ℕ (coded_list (coded× coded_ℕ code)))
      (λ p. (p.cap, p.live)) (λ p. pooled p.0 p.1) (λ _. refl)

  -- the slot that was opened first
  abbrev pub first_slot : List (ℕ × T) → Option ℕ
  first_slot [] = None
  first_slot (entry ∷ rest) = Some entry.0

  -- the slot that was opened next after this one
  abbrev pub slot_after : ℕ → List (ℕ × T) → Option ℕ
  slot_after slot [] = None
  slot_after slot (entry ∷ rest) =
      cond (nat_eq slot entry.0) (first_slot rest) (slot_after slot rest)
