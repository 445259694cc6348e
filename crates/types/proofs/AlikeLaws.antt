-- Sequences of parts that match the same match the same.
use Rattle.std.proofs.Common.{◌≡◌, inl, inr, ℕ, zero, suc, ◌+◌, Bool, sym, ◌∙◌}
use Rattle.assertions.specs.Segments.{Seq, one, chop, fuse, either, both, meet, during, times, Matches}
use Rattle.assertions.specs.Segments.{Chain}
use Rattle.assertions.specs.Written.{one_of, ticks, after, later}
use Rattle.types.specs.Entries.{Alike}

chain_there : (P Q : ℕ → ℕ → Type 0) → ((i j : ℕ) → P i j → Q i j) → (count i j : ℕ) → Chain P count i j
    → Chain Q count i j
chain_there P Q f zero i j c = c
chain_there P Q f (suc count) i j c = (c.0, chain_there P Q f count i c.0 c.1, f c.0 j c.2)

module _ {B C : Type 0} (h : B → ℕ → Bool) (g : C → ℕ → Bool) where
  pub alike_one : (b : B) (c : C) → ((k : ℕ) → h b k ≡ g c k) → Alike h g (one b) (one c)
  alike_one b c same i j = (λ m. (m.0, sym (same i) ∙ m.1), λ m. (m.0, same i ∙ m.1))

  pub alike_chop : (r s : Seq B) (r2 s2 : Seq C) → Alike h g r r2 → Alike h g s s2 → Alike h g (chop r s) (chop r2 s2)
  alike_chop r s r2 s2 a b i j =
      (λ m. (m.0, (a i m.0).0 m.1, (b m.0 j).0 m.2), λ m. (m.0, (a i m.0).1 m.1, (b m.0 j).1 m.2))

  pub alike_fuse : (r s : Seq B) (r2 s2 : Seq C) → Alike h g r r2 → Alike h g s s2 → Alike h g (fuse r s) (fuse r2 s2)
  alike_fuse r s r2 s2 a b i j = (
    λ m. (m.0, m.1, m.2, (a i (m.0 + 1)).0 m.3, (b m.0 j).0 m.4),
    λ m. (m.0, m.1, m.2, (a i (m.0 + 1)).1 m.3, (b m.0 j).1 m.4),
  )

  pub alike_either : (r s : Seq B) (r2 s2 : Seq C) → Alike h g r r2 → Alike h g s s2
      → Alike h g (either r s) (either r2 s2)
  alike_either r s r2 s2 a b i j = (
    λ m. elim m [ inl x ↦ inl ((a i j).0 x) | inr y ↦ inr ((b i j).0 y) ],
    λ m. elim m [ inl x ↦ inl ((a i j).1 x) | inr y ↦ inr ((b i j).1 y) ],
  )

  pub alike_both : (r s : Seq B) (r2 s2 : Seq C) → Alike h g r r2 → Alike h g s s2 → Alike h g (both r s) (both r2 s2)
  alike_both r s r2 s2 a b i j =
      (λ m. (m.0, m.1, (a i m.0).0 m.2, (b i m.1).0 m.3, m.4), λ m. (m.0, m.1, (a i m.0).1 m.2, (b i m.1).1 m.3, m.4))

  pub alike_meet : (r s : Seq B) (r2 s2 : Seq C) → Alike h g r r2 → Alike h g s s2 → Alike h g (meet r s) (meet r2 s2)
  alike_meet r s r2 s2 a b i j = (λ m. ((a i j).0 m.0, (b i j).0 m.1), λ m. ((a i j).1 m.0, (b i j).1 m.1))

  pub alike_during : (b : B) (c : C) (r : Seq B) (r2 : Seq C) → ((k : ℕ) → h b k ≡ g c k) → Alike h g r r2
      → Alike h g (during b r) (during c r2)
  alike_during b c r r2 same a i j = (
    λ m. ((a i j).0 m.0, λ k le lt. sym (same k) ∙ m.1 k le lt),
    λ m. ((a i j).1 m.0, λ k le lt. same k ∙ m.1 k le lt),
  )

  pub alike_times : (r : Seq B) (r2 : Seq C) (least most : ℕ) → Alike h g r r2
      → Alike h g (times r least most) (times r2 least most)
  alike_times r r2 least most a i j = (
    λ m. (m.0, m.1, m.2, chain_there (Matches h r) (Matches g r2) (λ x y. (a x y).0) m.0 i j m.3),
    λ m. (m.0, m.1, m.2, chain_there (Matches g r2) (Matches h r) (λ x y. (a x y).1) m.0 i j m.3),
  )

  pub alike_one_of : (first more : ℕ) (f : ℕ → Seq B) (e : ℕ → Seq C) → ((k : ℕ) → Alike h g (f k) (e k))
      → Alike h g (one_of first more f) (one_of first more e)
  alike_one_of first zero f e a = a first
  alike_one_of first (suc more) f e a =
      alike_either (f first) (one_of (first + 1) more f) (e first) (one_of (first + 1) more e) (a first)
      (alike_one_of (first + 1) more f e a)

  alike_ticks : (b : B) (c : C) (n : ℕ) → ((k : ℕ) → h b k ≡ g c k) → Alike h g (ticks b n) (ticks c n)
  alike_ticks b c n same = alike_times (one b) (one c) n n (alike_one b c same)

  pub alike_after : (b : B) (c : C) (r s : Seq B) (r2 s2 : Seq C) → ((k : ℕ) → h b k ≡ g c k) → Alike h g r r2
      → Alike h g s s2 → (n : ℕ) → Alike h g (after b r s n) (after c r2 s2 n)
  alike_after b c r s r2 s2 same x y zero = alike_fuse r s r2 s2 x y
  alike_after b c r s r2 s2 same x y (suc zero) = alike_chop r s r2 s2 x y
  alike_after b c r s r2 s2 same x y (suc (suc n)) =
      alike_chop (chop r (ticks b (n + 1))) s (chop r2 (ticks c (n + 1))) s2
      (alike_chop r (ticks b (n + 1)) r2 (ticks c (n + 1)) x (alike_ticks b c (n + 1) same)) y

  pub alike_later : (b : B) (c : C) (s : Seq B) (s2 : Seq C) → ((k : ℕ) → h b k ≡ g c k) → Alike h g s s2 → (n : ℕ)
      → Alike h g (later b s n) (later c s2 n)
  alike_later b c s s2 same y zero = y
  alike_later b c s s2 same y (suc n) =
      alike_chop (ticks b (suc n)) s (ticks c (suc n)) s2 (alike_ticks b c (suc n) same) y

pub alike_same : {B : Type 0} (h : B → ℕ → Bool) (r : Seq B) → Alike h h r r
alike_same h r i j = (λ m. m, λ m. m)
