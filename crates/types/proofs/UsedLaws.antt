-- What holds of each boolean of a sequence, and which booleans those are.
use Rattle.std.proofs.Common.{inl, inr, ℕ, ◌≤◌, subst, sym, arith}
use Rattle.assertions.specs.declared.sequence.Boolean.{Boolean}
use Rattle.assertions.specs.declared.sequence.Boolean.TheVariants.{One, Listed}
use Rattle.assertions.specs.Written.{Written, boolean, delay, lead, repeat, or, and, intersect, throughout}
use Rattle.assertions.specs.Listed.{EachBoolean, IsUsed, IsListed}
use Rattle.types.specs.Entries.{IsUsedOrOne}

module _ {B : Type 0} (P Q : B → Type 0) (f : (b : B) → P b → Q b) where
  pub each_map : (w : Written B) → EachBoolean P w → EachBoolean Q w
  each_map (boolean b) h = f b h
  each_map (delay r least most s) h = (each_map r h.0, each_map s h.1)
  each_map (lead least most s) h = each_map s h
  each_map (repeat r least most) h = each_map r h
  each_map (or r s) h = (each_map r h.0, each_map s h.1)
  each_map (and r s) h = (each_map r h.0, each_map s h.1)
  each_map (intersect r s) h = (each_map r h.0, each_map s h.1)
  each_map (throughout b r) h = (f b h.0, each_map r h.1)

-- What holds of each holds of one of them.
module _ {B : Type 0} (P : B → Type 0) (b : B) where
  pub each_used : (w : Written B) → EachBoolean P w → IsUsed b w → P b
  each_used (boolean c) h u = subst P (sym u) h
  each_used (delay r least most s) h u =
      elim u [ inl x ↦ each_used r h.0 x | inr y ↦ each_used s h.1 y ]
  each_used (lead least most s) h u = each_used s h u
  each_used (repeat r least most) h u = each_used r h u
  each_used (or r s) h u = elim u [ inl x ↦ each_used r h.0 x | inr y ↦ each_used s h.1 y ]
  each_used (and r s) h u = elim u [ inl x ↦ each_used r h.0 x | inr y ↦ each_used s h.1 y ]
  each_used (intersect r s) h u = elim u [ inl x ↦ each_used r h.0 x | inr y ↦ each_used s h.1 y ]
  each_used (throughout c r) h u =
      elim u [ inl x ↦ subst P (sym x) h.0 | inr y ↦ each_used r h.1 y ]

-- The booleans of a sequence that stay those of one around it.
pub used_on : (w v u : Written Boolean) → ((b : Boolean) → IsUsed b w → IsUsed b v) →
    EachBoolean (IsUsedOrOne w) u → EachBoolean (IsUsedOrOne v) u
used_on w v u f h =
    each_map (IsUsedOrOne w) (IsUsedOrOne v)
    (λ b x. elim x [ inl y ↦ inl (f b y) | inr one ↦ inr one ]) u h

pub boolean_listed : (m n : ℕ) → m ≤ n → (b : Boolean) → IsListed m b → IsListed n b
boolean_listed m n le One h = tt
boolean_listed m n le (Listed i) h = omega (arith, le, h)

-- A longer list has them too.
pub each_listed : (m n : ℕ) (w : Written Boolean) → m ≤ n → EachBoolean (IsListed m) w →
    EachBoolean (IsListed n) w
each_listed m n w le h = each_map (IsListed m) (IsListed n) (boolean_listed m n le) w h
