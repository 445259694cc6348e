-- The tests on segments and the standard's clauses say the same.
use Rattle.std.proofs.Common.{◌≡◌, inl, inr, ℕ, zero, suc, ◌+◌, ◌*◌, ◌<◌, ◌≤◌, Bool, ◌&&◌, refl, sym, ◌∙◌, arith}
use Rattle.std.specs.Prelude.{IsTrue, ◌==◌}
use Rattle.std.proofs.lemmas.Bool.{or_cases, or_left, or_right, and_parts, and_from, le-leb, eqb-true, eq-eqb, cases_lt}
use Rattle.std.proofs.Math.Nat.{mul-le-mul_right}
use Rattle.assertions.specs.Quantifiers.{some_in, each_in}
use Rattle.assertions.specs.Segments.{Seq, one, none, chop, fuse, either, both, meet, during, times, chain, Chain}
use Rattle.assertions.specs.Segments.{sat, always, is_match, Matches, longest}
use Rattle.assertions.proofs.Quantifiers.{some_in-found, some_in-true, each_in-at, each_in-true}

-- a chain of what doesn't go back doesn't go back
pub Chain-forward : (P : ℕ → ℕ → Type 0) → ((i j : ℕ) → P i j → i ≤ j) → (n i j : ℕ) → Chain P n i j → i ≤ j
Chain-forward P h zero i j c = omega (arith, c)
Chain-forward P h (suc n) i j c = omega (arith, Chain-forward P h n i c.0 c.1, h c.0 j c.2)

pub Chain-longest : (P : ℕ → ℕ → Type 0) (w : ℕ) → ((i j : ℕ) → P i j → j ≤ i + w) → (n i j : ℕ) → Chain P n i j
    → j ≤ i + n * w
Chain-longest P w h zero i j c = omega (arith, c)
Chain-longest P w h (suc n) i j c = omega (arith, Chain-longest P w h n i c.0 c.1, h c.0 j c.2)

pub chain-Chain : (p : ℕ → ℕ → Bool) (P : ℕ → ℕ → Type 0) → ((i j : ℕ) → IsTrue (p i j) → P i j) → (n i j : ℕ)
    → IsTrue (chain p n i j) → Chain P n i j
chain-Chain p P h zero i j t = eqb-true i j t
chain-Chain p P h (suc n) i j t =
    let f = some_in-found i (j + 1) (λ m. chain p n i m && p m j) t in
    let both = and_parts (chain p n i f.0) (p f.0 j) f.3 in
    (f.0, chain-Chain p P h n i f.0 both.0, h f.0 j both.1)

pub Chain-chain : (p : ℕ → ℕ → Bool) (P : ℕ → ℕ → Type 0) → ((i j : ℕ) → P i j → i ≤ j)
    → ((i j : ℕ) → P i j → IsTrue (p i j)) → (n i j : ℕ) → Chain P n i j → IsTrue (chain p n i j)
Chain-chain p P f h zero i j c = eq-eqb i j c
Chain-chain p P f h (suc n) i j c =
    some_in-true i (j + 1) (λ m. chain p n i m && p m j) c.0 (Chain-forward P f n i c.0 c.1)
    (omega (arith, f c.0 j c.2))
    (and_from _ _ (Chain-chain p P f h n i c.0 c.1) (h c.0 j c.2))

module _ (B : Type 0) (holds : B → ℕ → Bool) where
  -- a match doesn't end before it begins
  pub Matches-forward : (r : Seq B) (i j : ℕ) → Matches holds r i j → i ≤ j
  Matches-forward (one b) i j h = omega (arith, h.0)
  Matches-forward none i j h = omega (arith, h)
  Matches-forward (chop r s) i j h = omega (arith, Matches-forward r i h.0 h.1, Matches-forward s h.0 j h.2)
  Matches-forward (fuse r s) i j h = omega (arith, h.1, h.2)
  Matches-forward (either r s) i j h = elim h [ inl h ↦ Matches-forward r i j h | inr h ↦ Matches-forward s i j h ]
  Matches-forward (both r s) i j h = omega (arith, Matches-forward r i h.0 h.2, h.4)
  Matches-forward (meet r s) i j h = Matches-forward r i j h.0
  Matches-forward (during b r) i j h = Matches-forward r i j h.0
  Matches-forward (times r least most) i j h = Chain-forward (Matches holds r) (Matches-forward r) h.0 i j h.3

  -- nor is it longer than the longest
  pub Matches-longest : (r : Seq B) (i j : ℕ) → Matches holds r i j → j ≤ i + longest r
  Matches-longest (one b) i j h = omega (arith, h.0)
  Matches-longest none i j h = omega (arith, h)
  Matches-longest (chop r s) i j h = omega (arith, Matches-longest r i h.0 h.1, Matches-longest s h.0 j h.2)
  Matches-longest (fuse r s) i j h = omega (arith, Matches-longest r i (h.0 + 1) h.3, Matches-longest s h.0 j h.4)
  Matches-longest (either r s) i j h =
      elim h [ inl h ↦ omega (arith, Matches-longest r i j h) | inr h ↦ omega (arith, Matches-longest s i j h) ]
  Matches-longest (both r s) i j h = omega (arith, Matches-longest r i h.0 h.2, Matches-longest s i h.1 h.3, h.4)
  Matches-longest (meet r s) i j h = omega (arith, Matches-longest r i j h.0, Matches-longest s i j h.1)
  Matches-longest (during b r) i j h = Matches-longest r i j h.0
  Matches-longest (times r least most) i j h =
      omega (
        arith,
        Chain-longest (Matches holds r) (longest r) (Matches-longest r) h.0 i j h.3,
        mul-le-mul_right (longest r) h.2,
      )

  pub is_match-Matches : (r : Seq B) (i j : ℕ) → IsTrue (is_match holds r i j) → Matches holds r i j
  is_match-Matches (one b) i j h = let p = and_parts (j == i + 1) (holds b i) h in (eqb-true j (i + 1) p.0, p.1)
  is_match-Matches none i j h = eqb-true i j h
  is_match-Matches (chop r s) i j h =
      let f = some_in-found i (j + 1) (λ m. is_match holds r i m && is_match holds s m j) h in
      let p = and_parts (is_match holds r i f.0) (is_match holds s f.0 j) f.3 in
      (f.0, is_match-Matches r i f.0 p.0, is_match-Matches s f.0 j p.1)
  is_match-Matches (fuse r s) i j h =
      let f = some_in-found i j (λ e. is_match holds r i (e + 1) && is_match holds s e j) h in
      let p = and_parts (is_match holds r i (f.0 + 1)) (is_match holds s f.0 j) f.3 in
      (f.0, f.1, f.2, is_match-Matches r i (f.0 + 1) p.0, is_match-Matches s f.0 j p.1)
  is_match-Matches (either r s) i j h =
      elim (or_cases (is_match holds r i j) (is_match holds s i j) h) [
        | inl h ↦ inl (is_match-Matches r i j h)
        | inr h ↦ inr (is_match-Matches s i j h)
      ]
  is_match-Matches (both r s) i j h =
      elim (or_cases (is_match holds r i j && some_in i (j + 1) (λ k. is_match holds s i k))
      (some_in i (j + 1) (λ k. is_match holds r i k) && is_match holds s i j) h) [
        | inl h ↦
            let p = and_parts (is_match holds r i j) (some_in i (j + 1) (λ k. is_match holds s i k)) h in
            let f = some_in-found i (j + 1) (λ k. is_match holds s i k) p.1 in
            (j, f.0, is_match-Matches r i j p.0, is_match-Matches s i f.0 f.3, omega (arith, f.2))
        | inr h ↦
            let p = and_parts (some_in i (j + 1) (λ k. is_match holds r i k)) (is_match holds s i j) h in
            let f = some_in-found i (j + 1) (λ k. is_match holds r i k) p.0 in
            (f.0, j, is_match-Matches r i f.0 f.3, is_match-Matches s i j p.1, omega (arith, f.2))
      ]
  is_match-Matches (meet r s) i j h =
      let p = and_parts (is_match holds r i j) (is_match holds s i j) h in
      (is_match-Matches r i j p.0, is_match-Matches s i j p.1)
  is_match-Matches (during b r) i j h =
      let p = and_parts (is_match holds r i j) (each_in i j (λ k. holds b k)) h in
      (is_match-Matches r i j p.0, λ k from below. each_in-at i j (λ k. holds b k) k p.1 from below)
  is_match-Matches (times r least most) i j h =
      let f = some_in-found least (most + 1) (λ k. chain (is_match holds r) k i j) h in
      (f.0, f.1, omega (arith, f.2), chain-Chain (is_match holds r) (Matches holds r) (is_match-Matches r) f.0 i j f.3)

  pub Matches-is_match : (r : Seq B) (i j : ℕ) → Matches holds r i j → IsTrue (is_match holds r i j)
  Matches-is_match (one b) i j h = and_from (j == i + 1) (holds b i) (eq-eqb j (i + 1) h.0) h.1
  Matches-is_match none i j h = eq-eqb i j h
  Matches-is_match (chop r s) i j h =
      let from : i ≤ h.0 = Matches-forward r i h.0 h.1 in
      let below : h.0 < j + 1 = omega (arith, Matches-forward s h.0 j h.2) in
      some_in-true i (j + 1) (λ m. is_match holds r i m && is_match holds s m j) h.0 from below
      (and_from _ _ (Matches-is_match r i h.0 h.1) (Matches-is_match s h.0 j h.2))
  Matches-is_match (fuse r s) i j h =
      some_in-true i j (λ e. is_match holds r i (e + 1) && is_match holds s e j) h.0 h.1 h.2
      (and_from _ _ (Matches-is_match r i (h.0 + 1) h.3) (Matches-is_match s h.0 j h.4))
  Matches-is_match (either r s) i j h =
      elim h [
        | inl h ↦ or_left (is_match holds r i j) (is_match holds s i j) (Matches-is_match r i j h)
        | inr h ↦ or_right (is_match holds r i j) (is_match holds s i j) (Matches-is_match s i j h)
      ]
  Matches-is_match (both r s) i j h =
      let r_from : i ≤ h.0 = Matches-forward r i h.0 h.2 in
      let s_from : i ≤ h.1 = Matches-forward s i h.1 h.3 in
      let r_true : IsTrue (is_match holds r i h.0) = Matches-is_match r i h.0 h.2 in
      let s_true : IsTrue (is_match holds s i h.1) = Matches-is_match s i h.1 h.3 in
      elim (cases_lt h.0 h.1) [
        | inl lt ↦
            let e : j ≡ h.1 = omega (arith, h.4) in
            or_right (is_match holds r i j && some_in i (j + 1) (λ k. is_match holds s i k))
            (some_in i (j + 1) (λ k. is_match holds r i k) && is_match holds s i j)
            (and_from _ _ (some_in-true i (j + 1) (λ k. is_match holds r i k) h.0 r_from (omega arith) r_true)
            (rw e s_true))
        | inr le ↦
            let e : j ≡ h.0 = omega (arith, h.4) in
            or_left (is_match holds r i j && some_in i (j + 1) (λ k. is_match holds s i k))
            (some_in i (j + 1) (λ k. is_match holds r i k) && is_match holds s i j)
            (and_from _ _ (rw e r_true)
            (some_in-true i (j + 1) (λ k. is_match holds s i k) h.1 s_from (omega arith) s_true))
      ]
  Matches-is_match (meet r s) i j h = and_from _ _ (Matches-is_match r i j h.0) (Matches-is_match s i j h.1)
  Matches-is_match (during b r) i j h =
      and_from _ _ (Matches-is_match r i j h.0) (each_in-true i j (λ k. holds b k) h.1)
  Matches-is_match (times r least most) i j h =
      some_in-true least (most + 1) (λ k. chain (is_match holds r) k i j) h.0 h.1 (omega (arith, h.2))
      (Chain-chain (is_match holds r) (Matches holds r) (Matches-forward r) (Matches-is_match r) h.0 i j h.3)

  -- an answer that is computed is right
  pub is_match-iff : (r : Seq B) (i j : ℕ) (b : Bool) → b ≡ is_match holds r i j → (IsTrue b → Matches holds r i j)
      × (Matches holds r i j → IsTrue b)
  is_match-iff r i j b e = (λ t. is_match-Matches r i j (sym e ∙ t), λ m. e ∙ Matches-is_match r i j m)

pub Chain-mono : (P Q : ℕ → ℕ → Type 0) → ((i j : ℕ) → P i j → Q i j) → (n i j : ℕ) → Chain P n i j → Chain Q n i j
Chain-mono P Q h zero i j c = c
Chain-mono P Q h (suc n) i j c = (c.0, Chain-mono P Q h n i c.0 c.1, h c.0 j c.2)

-- where more is true, more is_match
module _ (B : Type 0) (some more : B → ℕ → Bool) (grows : (b : B) (k : ℕ) → IsTrue (some b k) → IsTrue (more b k)) where
  pub Matches-mono : (r : Seq B) (i j : ℕ) → Matches some r i j → Matches more r i j
  Matches-mono (one b) i j h = (h.0, grows b i h.1)
  Matches-mono none i j h = h
  Matches-mono (chop r s) i j h = (h.0, Matches-mono r i h.0 h.1, Matches-mono s h.0 j h.2)
  Matches-mono (fuse r s) i j h = (h.0, h.1, h.2, Matches-mono r i (h.0 + 1) h.3, Matches-mono s h.0 j h.4)
  Matches-mono (either r s) i j h = elim h [ inl h ↦ inl (Matches-mono r i j h) | inr h ↦ inr (Matches-mono s i j h) ]
  Matches-mono (both r s) i j h = (h.0, h.1, Matches-mono r i h.0 h.2, Matches-mono s i h.1 h.3, h.4)
  Matches-mono (meet r s) i j h = (Matches-mono r i j h.0, Matches-mono s i j h.1)
  Matches-mono (during b r) i j h = (Matches-mono r i j h.0, λ k from below. grows b k (h.1 k from below))
  Matches-mono (times r least most) i j h =
      (h.0, h.1, h.2, Chain-mono (Matches some r) (Matches more r) (Matches-mono r) h.0 i j h.3)

-- with nothing seen every boolean is true
pub always_iff : (B : Type 0) (value : B → ℕ → Bool) (r : Seq B) (b : Bool) (i j : ℕ)
    → (IsTrue b → Matches (sat value 0) r i j) × (Matches (sat value 0) r i j → IsTrue b)
    → (IsTrue b → Matches always r i j) × (Matches always r i j → IsTrue b)
always_iff B value r b i j h = (
  λ t. Matches-mono B (sat value 0) always (λ b k t. refl) r i j (h.0 t),
  λ m. h.1 (Matches-mono B always (sat value 0) (λ b k t. or_left _ _ (le-leb 0 k (omega arith))) r i j m),
)
