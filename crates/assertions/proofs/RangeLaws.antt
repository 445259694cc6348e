-- Delays of so many ticks, as the kernel writes them out.
use Rattle.std.proofs.Common.{◌≡◌, inl, inr, ℕ, zero, suc, ◌+◌, ◌-◌, ◌≤◌, Bool, sym, subst, arith}
use Rattle.std.specs.Prelude.{IsTrue}
use Rattle.std.proofs.lemmas.Bool.{cases_eq}
use Rattle.assertions.specs.Segments.{Seq, one, Chain, Matches}
use Rattle.assertions.specs.Written.{one_of, ticks, after, later}

module _ (B : Type 0) (holds : B → ℕ → Bool) where
  -- a range is one of its numbers
  pub one_of-found : (form : ℕ → Seq B) (first more i j : ℕ) → Matches holds (one_of first more form) i j → (k : ℕ)
      × (first ≤ k) × (k ≤ first + more) × Matches holds (form k) i j
  one_of-found form first zero i j h = (first, omega arith, omega arith, h)
  one_of-found form first (suc more) i j h = elim h [
    | inl here ↦ (first, omega arith, omega arith, here)
    | inr there ↦ let f =
        one_of-found form (first + 1) more i j there in (f.0, omega (arith, f.1), omega (arith, f.2), f.3)
  ]

  pub one_of-matches : (form : ℕ → Seq B) (first more i j k : ℕ) → first ≤ k → k ≤ first + more
      → Matches holds (form k) i j → Matches holds (one_of first more form) i j
  one_of-matches form first zero i j k from within h =
      let e : k ≡ first = omega arith in subst (λ n. Matches holds (form n) i j) e h
  one_of-matches form first (suc more) i j k from within h = elim (cases_eq first k) [
    | inl e ↦ inl (subst (λ n. Matches holds (form n) i j) (sym e) h)
    | inr ne ↦ inr (one_of-matches form (first + 1) more i j k (omega arith) (omega arith) h)
  ]

  ticks-length : (b : B) (n i j : ℕ) → Chain (Matches holds (one b)) n i j → j ≡ i + n
  ticks-length b zero i j c = omega (arith, c)
  ticks-length b (suc n) i j c = omega (arith, ticks-length b n i c.0 c.1, c.2.0)

  ticks-chain : (b : B) → ((k : ℕ) → IsTrue (holds b k)) → (n i : ℕ) → Chain (Matches holds (one b)) n i (i + n)
  ticks-chain b t zero i = omega arith
  ticks-chain b t (suc n) i = (i + n, ticks-chain b t n i, (omega arith, t (i + n)))

  -- so many ticks
  pub ticks-found : (b : B) (n i j : ℕ) → Matches holds (ticks b n) i j → j ≡ i + n
  ticks-found b n i j h = omega (arith, h.1, h.2, ticks-length b h.0 i j h.3)

  pub ticks-matches : (b : B) → ((k : ℕ) → IsTrue (holds b k)) → (n i : ℕ) → Matches holds (ticks b n) i (i + n)
  ticks-matches b t n i = (n, omega arith, omega arith, ticks-chain b t n i)

  -- r ##n s for n of 1 or more: between the end of r and the beginning of s lie n - 1 ticks
  pub after-found : (b : B) (r s : Seq B) (n i j : ℕ) → 1 ≤ n → Matches holds (after b r s n) i j → (m : ℕ)
      × Matches holds r i m × Matches holds s (m + (n - 1)) j
  after-found b r s zero i j some h = absurd (omega arith)
  after-found b r s (suc zero) i j some h =
      let e : h.0 ≡ h.0 + (1 - 1) = omega arith in
      (h.0, h.1, subst (λ m. Matches holds s m j) e h.2)
  after-found b r s (suc (suc n)) i j some h =
      let e : h.0 ≡ h.1.0 + (suc (suc n) - 1) = omega (arith, ticks-found b (n + 1) h.1.0 h.0 h.1.2) in
      (h.1.0, h.1.1, subst (λ m. Matches holds s m j) e h.2)

  pub after-matches : (b : B) → ((k : ℕ) → IsTrue (holds b k)) → (r s : Seq B) (n i m j : ℕ) → 1 ≤ n
      → Matches holds r i m → Matches holds s (m + (n - 1)) j → Matches holds (after b r s n) i j
  after-matches b t r s zero i m j some front rest = absurd (omega arith)
  after-matches b t r s (suc zero) i m j some front rest =
      let e : m + (1 - 1) ≡ m = omega arith in
      (m, front, subst (λ k. Matches holds s k j) e rest)
  after-matches b t r s (suc (suc n)) i m j some front rest =
      let e : m + (suc (suc n) - 1) ≡ m + (n + 1) = omega arith in
      (m + (n + 1), (m, front, ticks-matches b t (n + 1) m), subst (λ k. Matches holds s k j) e rest)

  -- ##n s
  pub later-found : (b : B) (s : Seq B) (n i j : ℕ) → Matches holds (later b s n) i j → Matches holds s (i + n) j
  later-found b s zero i j h = let e : i ≡ i + 0 = omega arith in subst (λ m. Matches holds s m j) e h
  later-found b s (suc n) i j h =
      let e : h.0 ≡ i + suc n = omega (arith, ticks-found b (suc n) i h.0 h.1) in
      subst (λ m. Matches holds s m j) e h.2

  pub later-matches : (b : B) → ((k : ℕ) → IsTrue (holds b k)) → (s : Seq B) (n i j : ℕ) → Matches holds s (i + n) j
      → Matches holds (later b s n) i j
  later-matches b t s zero i j h = let e : i + 0 ≡ i = omega arith in subst (λ m. Matches holds s m j) e h
  later-matches b t s (suc n) i j h = (i + suc n, ticks-matches b t (suc n) i, h)
