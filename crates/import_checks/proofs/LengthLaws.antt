-- How many ticks matches take, by the forms of sequences.
use Rattle.std.proofs.Common.{◌≡◌, inl, inr, ℕ, zero, suc, ◌+◌, ◌-◌, ◌*◌, ◌<◌, ◌≤◌, Bool, arith}
use Rattle.std.proofs.Math.Nat.{mul-le-mul_left}
use Rattle.assertions.specs.Segments.{Seq, Chain, Matches}
use Rattle.assertions.specs.Written.{Written, boolean, delay, lead, repeat, or, and, intersect, throughout, after}
use Rattle.assertions.specs.Written.{later}
use Rattle.assertions.specs.Written.{kernel, IsOrdered}
use Rattle.assertions.proofs.RangeLaws.{one_of-found, after-found, later-found}
use Rattle.import_properties.specs.declared.condition.Condition.{Condition}
use Rattle.import_properties.specs.declared.condition.Condition.TheVariants.{One}
use Rattle.import_checks.specs.Lengths.{fewest_ticks, most_ticks, delayed_ticks, apart, fused}

chain-ends : (P : ℕ → ℕ → Type 0) (f m : ℕ) → ((i j : ℕ) → P i j → (i + f ≤ j) × (j ≤ i + m)) → (n i j : ℕ)
    → Chain P n i j → (i + f * n ≤ j) × (j ≤ i + m * n)
chain-ends P f m each zero i j h = (omega (arith, h), omega (arith, h))
chain-ends P f m each (suc n) i j h =
    let before = chain-ends P f m each n i h.0 h.1 in
    let last = each h.0 j h.2 in
    let few : f * suc n ≡ f * n + f = omega arith in
    let many : m * suc n ≡ m * n + m = omega arith in
    (omega (arith, before.0, last.0, few), omega (arith, before.1, last.1, many))

-- two parts that share a tick
fused-ends : (f g m n i e j : ℕ) → i ≤ e → e < j → (i + f ≤ e + 1) × (e + 1 ≤ i + m)
    → (e + g ≤ j) × (j ≤ e + n) → (i + fused f g ≤ j) × (j ≤ i + ((m + 0 + n) - 1))
fused-ends f g m n i e j from below first second =
    (omega (arith, first.0, second.0), omega (arith, first.1, second.1))

-- two parts so far apart
apart-ends : (f g m n k i a j : ℕ) → 1 ≤ k → (i + f ≤ a) × (a ≤ i + m) → (a + (k - 1) + g ≤ j) × (j ≤ a + (k - 1) + n)
    → (i + apart f k g ≤ j) × (j ≤ i + ((m + k + n) - 1))
apart-ends f g m n k i a j some first second =
    (omega (arith, first.0, second.0), omega (arith, first.1, second.1))

-- the fewest ticks of a range are no more than those of one of its numbers
delayed-below : (f g l m k : ℕ) → l ≤ k → k ≤ m → 1 ≤ k → delayed_ticks f l m g ≤ apart f k g
delayed-below f g zero zero k from within some = omega arith
delayed-below f g zero (suc m) k from within some = omega arith
delayed-below f g (suc l) m k from within some = omega arith

delayed-fused : (f g m : ℕ) → delayed_ticks f 0 m g ≤ fused f g
delayed-fused f g zero = omega arith
delayed-fused f g (suc m) = omega arith

module _ (holds : Condition → ℕ → Bool) where
  after-ends : (r s : Seq Condition) (f g m n l most k i j : ℕ) → l ≤ k → k ≤ most
      → ((i j : ℕ) → Matches holds r i j → (i + f ≤ j) × (j ≤ i + m))
      → ((i j : ℕ) → Matches holds s i j → (i + g ≤ j) × (j ≤ i + n))
      → Matches holds (after One r s k) i j
      → (i + delayed_ticks f l most g ≤ j) × (j ≤ i + ((m + most + n) - 1))
  after-ends r s f g m n zero most zero i j from within first second h =
      let e = fused-ends f g m n i h.0 j h.1 h.2 (first i (h.0 + 1) h.3) (second h.0 j h.4) in
      (omega (arith, e.0, delayed-fused f g most), omega (arith, e.1))
  after-ends r s f g m n (suc l) most zero i j from within first second h = absurd (omega arith)
  after-ends r s f g m n l most (suc k) i j from within first second h =
      let a = after-found Condition holds One r s (suc k) i j (omega arith) h in
      let e = apart-ends f g m n (suc k) i a.0 j (omega arith) (first i a.0 a.1) (second (a.0 + (suc k - 1)) j a.2) in (
        omega (arith, e.0, delayed-below f g l most (suc k) from within (omega arith)),
        omega (arith, e.1),
      )

  pub match-ends : (w : Written Condition) (i j : ℕ) → IsOrdered w → Matches holds (kernel One w) i j
      → (i + fewest_ticks w ≤ j) × (j ≤ i + most_ticks w)
  match-ends (boolean b) i j o h = (omega (arith, h.0), omega (arith, h.0))
  match-ends (delay r l m s) i j o h =
      let k = one_of-found Condition holds (after One (kernel One r) (kernel One s)) l (m - l) i j h in
      after-ends (kernel One r) (kernel One s) (fewest_ticks r) (fewest_ticks s) (most_ticks r) (most_ticks s) l m k.0
      i j k.1 (omega (arith, k.2, o.0)) (λ a b. match-ends r a b o.1) (λ a b. match-ends s a b o.2) k.3
  match-ends (lead l m s) i j o h =
      let k = one_of-found Condition holds (later One (kernel One s)) l (m - l) i j h in
      let e = match-ends s (i + k.0) j o.1 (later-found Condition holds One (kernel One s) k.0 i j k.3) in
      (omega (arith, e.0, k.1), omega (arith, e.1, k.2, o.0))
  match-ends (repeat r l m) i j o h =
      let e = chain-ends (Matches holds (kernel One r)) (fewest_ticks r) (most_ticks r) (λ a b. match-ends r a b o.1)
      h.0 i j h.3 in (
        omega (arith, e.0, mul-le-mul_left (fewest_ticks r) h.1),
        omega (arith, e.1, mul-le-mul_left (most_ticks r) h.2),
      )
  match-ends (or r s) i j o h = elim h [
    | inl a ↦ let e = match-ends r i j o.0 a in (omega (arith, e.0), omega (arith, e.1))
    | inr a ↦ let e = match-ends s i j o.1 a in (omega (arith, e.0), omega (arith, e.1))
  ]
  match-ends (and r s) i j o h =
      let a = match-ends r i h.0 o.0 h.2 in
      let b = match-ends s i h.1 o.1 h.3 in
      (omega (arith, a.0, b.0, h.4), omega (arith, a.1, b.1, h.4))
  match-ends (intersect r s) i j o h =
      let a = match-ends r i j o.0 h.0 in
      let b = match-ends s i j o.1 h.1 in
      (omega (arith, a.0, b.0), omega (arith, a.1, b.1))
  match-ends (throughout b r) i j o h = match-ends r i j o h.0
