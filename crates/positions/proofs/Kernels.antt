-- A plan stands for the kernel of what is written.
use Rattle.std.proofs.Common.{◌≡◌, inl, inr, ℕ, zero, suc, ◌+◌, ◌-◌, ◌<◌, ◌≤◌, Bool, true, false, ◌&&◌}
use Rattle.std.proofs.Common.{refl, sym, subst, ap, arith}
use Rattle.std.specs.Prelude.{◌↔◌, IsTrue}
use Rattle.std.proofs.lemmas.Bool.{cases_eq, cases_lt, and_from, both_ways, lt-ltb}
use Rattle.assertions.specs.Segments.{Seq, one, Chain, Matches}
use Rattle.assertions.specs.Written.{Written, boolean, delay, lead, repeat, or, and, intersect, throughout}
use Rattle.assertions.specs.Written.{one_of, after, later, kernel, weight, IsOrdered}
use Rattle.assertions.specs.Emptiness.{admits_empty}
use Rattle.assertions.proofs.Segments.{Matches-forward, Matches-longest}
use Rattle.assertions.proofs.EmptinessLaws.{empty-Matches, Matches-empty}
use Rattle.assertions.proofs.WeightLaws.{weight_covers}
use Rattle.positions.specs.Plans.{Plan, tick, skip, any, all, pair, under, loop, link, plan_sequence, apart}
use Rattle.positions.specs.Plans.{moving}
use Rattle.positions.specs.Plans.{weighs, plan}
use Rattle.positions.proofs.Ticks.{link-Linked, Linked-link}

Chain-map : (P Q : ℕ → ℕ → Type 0) → ((i j : ℕ) → P i j → Q i j) → (n i j : ℕ) → Chain P n i j → Chain Q n i j
Chain-map P Q each zero i j h = h
Chain-map P Q each (suc n) i j h = (h.0, Chain-map P Q each n i h.0 h.1, each h.0 j h.2)

module _ (B : Type 0) (holds : B → ℕ → Bool) (true_one : B) where
  -- what matches a tick or more weighs something
  moves-weighs : (w : Written B) → IsOrdered w → (i j : ℕ) → i < j → Matches holds (kernel true_one w) i j
      → IsTrue (weighs w)
  moves-weighs w ordered i j lt h =
      lt-ltb 0 (weight w)
      (omega (arith, Matches-longest B holds (kernel true_one w) i j h, weight_covers B true_one w ordered))

  -- a range is one of its numbers
  one_of-some : (form : ℕ → Seq B) (first more i j : ℕ) → Matches holds (one_of first more form) i j → (d : ℕ)
      × (first ≤ d) × (d ≤ first + more) × Matches holds (form d) i j
  one_of-some form first zero i j h = (first, omega arith, omega arith, h)
  one_of-some form first (suc more) i j (inl h) = (first, omega arith, omega arith, h)
  one_of-some form first (suc more) i j (inr h) =
      let x = one_of-some form (first + 1) more i j h in (x.0, omega (arith, x.1), omega (arith, x.2), x.3)

  some-one_of : (form : ℕ → Seq B) (first more i j d : ℕ) → first ≤ d → d ≤ first + more → Matches holds (form d) i j
      → Matches holds (one_of first more form) i j
  some-one_of form first zero i j d low high h =
      let same : d ≡ first = omega arith in subst (λ n. Matches holds (form n) i j) same h
  some-one_of form first (suc more) i j d low high h = elim (cases_eq d first) [
    | inl same ↦ inl (subst (λ n. Matches holds (form n) i j) same h)
    | inr other ↦ inr (some-one_of form (first + 1) more i j d (omega arith) (omega arith) h)
  ]

  abbrev Ticks : ℕ → ℕ → ℕ → Type 0
  Ticks n i j = Chain (Matches holds (one true_one)) n i j

  -- r, so many ticks, and s
  abbrev Spaced : Seq B → Seq B → ℕ → ℕ → ℕ → Type 0
  Spaced r s n i j = (m : ℕ) × (k : ℕ) × Matches holds r i m × Ticks n m k × Matches holds s k j

  after-Spaced : (r s : Seq B) (n i j : ℕ) → Matches holds (after true_one r s (suc n)) i j → Spaced r s n i j
  after-Spaced r s zero i j h = (h.0, h.0, h.1, refl, h.2)
  after-Spaced r s (suc n) i j h =
      let x = h.1.2 in
      let e : x.0 ≡ suc n = omega (arith, x.1, x.2) in
      (h.1.0, h.0, h.1.1, subst (λ c. Ticks c h.1.0 h.0) e x.3, h.2)

  Spaced-after : (r s : Seq B) (n i j : ℕ) → Spaced r s n i j → Matches holds (after true_one r s (suc n)) i j
  Spaced-after r s zero i j h = (h.0, h.2, subst (λ k. Matches holds s k j) (sym h.3) h.4)
  Spaced-after r s (suc n) i j h =
      let e : suc n ≡ n + 1 = omega arith in
      (h.1, (h.0, h.2, (n + 1, omega arith, omega arith, subst (λ c. Ticks c h.0 h.1) e h.3)), h.4)

  later-Ticks : (s : Seq B) (n i j : ℕ) → Matches holds (later true_one s n) i j → (k : ℕ) × Ticks n i k
      × Matches holds s k j
  later-Ticks s zero i j h = (i, refl, h)
  later-Ticks s (suc n) i j h =
      let x = h.1 in
      let e : x.0 ≡ suc n = omega (arith, x.1, x.2) in
      (h.0, subst (λ c. Ticks c i h.0) e x.3, h.2)

  Ticks-later : (s : Seq B) (n i j : ℕ) → (k : ℕ) × Ticks n i k × Matches holds s k j
      → Matches holds (later true_one s n) i j
  Ticks-later s zero i j h = subst (λ k. Matches holds s k j) (sym h.1) h.2
  Ticks-later s (suc n) i j h = (h.0, (suc n, omega arith, omega arith, h.1), h.2)

  abbrev Same : Seq B → Seq B → Type 0
  Same r s = (i j : ℕ) → Matches holds r i j ↔ Matches holds s i j

  -- with parts that are the same
  Spaced-forth : (r s : Seq B) (p q : Plan B) → Same r (plan_sequence p) → Same s (plan_sequence q) → (n i j : ℕ)
      → Spaced r s n i j
      → Spaced (plan_sequence p) (plan_sequence q) n i j
  Spaced-forth r s p q er es n i j h = (h.0, h.1, (er i h.0).0 h.2, h.3, (es h.1 j).0 h.4)

  Spaced-back : (r s : Seq B) (p q : Plan B) → Same r (plan_sequence p) → Same s (plan_sequence q) → (n i j : ℕ)
      → Spaced (plan_sequence p) (plan_sequence q) n i j → Spaced r s n i j
  Spaced-back r s p q er es n i j h = (h.0, h.1, (er i h.0).1 h.2, h.3, (es h.1 j).1 h.4)

  apart-forth : (r s : Seq B) (p q : Plan B) → Same r (plan_sequence p) → Same s (plan_sequence q)
      → (least most : ℕ) → least ≤ most → (i j d : ℕ) → least ≤ d → d ≤ most
      → Matches holds (after true_one r s d) i j → Matches holds (plan_sequence (apart true_one p q least most)) i j
  apart-forth r s p q er es zero zero le i j zero low high h =
      Linked-link B holds true false p skip q i j
      (inl (refl, h.0, h.1, h.2, (er i (h.0 + 1)).0 h.3, (es h.0 j).0 h.4))
  apart-forth r s p q er es zero zero le i j (suc d) low high h = absurd (omega arith)
  apart-forth r s p q er es zero (suc most) le i j zero low high h =
      Linked-link B holds true true p (loop (tick true_one) 0 most) q i j
      (inl (refl, h.0, h.1, h.2, (er i (h.0 + 1)).0 h.3, (es h.0 j).0 h.4))
  apart-forth r s p q er es zero (suc most) le i j (suc d) low high h =
      let x = Spaced-forth r s p q er es d i j (after-Spaced r s d i j h) in
      Linked-link B holds true true p (loop (tick true_one) 0 most) q i j
      (inr (refl, x.0, x.1, x.2, (d, omega arith, omega arith, x.3), x.4))
  apart-forth r s p q er es (suc least) most le i j zero low high h = absurd (omega arith)
  apart-forth r s p q er es (suc least) most le i j (suc d) low high h =
      let x = Spaced-forth r s p q er es d i j (after-Spaced r s d i j h) in
      (x.1, (x.0, x.2, (d, omega arith, omega arith, x.3)), x.4)

  apart-back : (r s : Seq B) (p q : Plan B) → Same r (plan_sequence p) → Same s (plan_sequence q) → (least most : ℕ)
      → least ≤ most → (i j : ℕ) → Matches holds (plan_sequence (apart true_one p q least most)) i j → (d : ℕ)
      × (least ≤ d) × (d ≤ most) × Matches holds (after true_one r s d) i j
  apart-back r s p q er es zero zero le i j h = elim (link-Linked B holds true false p skip q i j h) [
    | inl x ↦ (0, omega arith, omega arith, (x.1, x.2, x.3, (er i (x.1 + 1)).1 x.4, (es x.1 j).1 x.5))
    | inr x ↦ (let no : false ≡ true = x.0 in cc)
  ]
  apart-back r s p q er es zero (suc most) le i j h =
      elim (link-Linked B holds true true p (loop (tick true_one) 0 most) q i j h) [
        | inl x ↦ (0, omega arith, omega arith, (x.1, x.2, x.3, (er i (x.1 + 1)).1 x.4, (es x.1 j).1 x.5))
        | inr x ↦
            let c : ℕ = x.4.0 in (
              suc c,
              omega arith,
              omega (arith, x.4.2),
              Spaced-after r s c i j (Spaced-back r s p q er es c i j (x.1, x.2, x.3, x.4.3, x.5)),
            )
      ]
  apart-back r s p q er es (suc least) most le i j h =
      let c : ℕ = h.1.2.0 in (
        suc c,
        omega (arith, h.1.2.1),
        omega (arith, h.1.2.2),
        Spaced-after r s c i j (Spaced-back r s p q er es c i j (h.1.0, h.0, h.1.1, h.1.2.3, h.2)),
      )

  -- what is left of a plan where no match takes a tick
  moving-Same : (r : Seq B) (p : Plan B) (takes empty : Bool) → ((i j : ℕ) → i < j → Matches holds r i j → IsTrue takes)
      → ((i : ℕ) → Matches holds r i i → IsTrue empty) → ((i : ℕ) → IsTrue empty → Matches holds r i i)
      → Same r (plan_sequence p) → Same r (plan_sequence (moving takes empty p))
  moving-Same r p true empty takes nulls lone same i j = same i j
  moving-Same r p false true takes nulls lone same i j = (
    λ h. elim (cases_lt i j) [
      | inl lt ↦ absurd (both_ways _ refl (takes i j lt h))
      | inr ge ↦ omega (arith, Matches-forward B holds r i j h)
    ],
    λ e. subst (λ m. Matches holds r i m) e (lone i refl),
  )
  moving-Same r p false false takes nulls lone same i j = (
    λ h. elim (cases_lt i j) [
      | inl lt ↦ absurd (both_ways _ refl (takes i j lt h))
      | inr ge ↦
          let e : j ≡ i = omega (arith, Matches-forward B holds r i j h) in
          absurd (both_ways _ refl (nulls i (subst (λ m. Matches holds r i m) e h)))
    ],
    λ h. absurd (omega (arith, h.2, h.3, h.4)),
  )

  moving-kernel : (w : Written B) (p : Plan B) → IsOrdered w → Same (kernel true_one w) (plan_sequence p)
      → Same (kernel true_one w) (plan_sequence (moving (weighs w) (admits_empty w) p))
  moving-kernel w p ordered =
      moving-Same (kernel true_one w) p (weighs w) (admits_empty w)
      (moves-weighs w ordered)
      (λ i h. Matches-empty B holds true_one w i ordered h)
      (λ i h. empty-Matches B holds true_one w i ordered h)

  -- a plan matches what its kernel does
  pub plan-kernel : (w : Written B) → IsOrdered w → Same (kernel true_one w) (plan_sequence (plan true_one w))
  plan-kernel (boolean b) ordered = λ i j. (λ h. h, λ h. h)
  plan-kernel (delay r least most s) ordered =
      moving-kernel (delay r least most s)
      (apart true_one (plan true_one r) (plan true_one s) least most) ordered (λ i j.
      let er = plan-kernel r ordered.1 in
      let es = plan-kernel s ordered.2 in
      let sum : least + (most - least) ≡ most = omega (arith, ordered.0) in (
        λ h.
            let x = one_of-some (after true_one (kernel true_one r) (kernel true_one s)) least (most - least) i j h in
            apart-forth (kernel true_one r) (kernel true_one s) (plan true_one r)
            (plan true_one s) er es least most ordered.0 i j x.0 x.1
            (omega (arith, x.2, sum)) x.3,
        λ h.
            let x =
            apart-back (kernel true_one r) (kernel true_one s) (plan true_one r)
            (plan true_one s) er es least most ordered.0 i j h in
            some-one_of (after true_one (kernel true_one r) (kernel true_one s)) least (most - least) i j x.0 x.1
            (omega (arith, x.2, sum)) x.3,
      ))
  plan-kernel (lead least most s) ordered =
      moving-kernel (lead least most s) (link false true (loop (tick true_one) least most) skip (plan true_one s))
      ordered (λ i j.
      let es = plan-kernel s ordered.1 in
      let sum : least + (most - least) ≡ most = omega (arith, ordered.0) in (
        λ h.
            let x = one_of-some (later true_one (kernel true_one s)) least (most - least) i j h in
            let y = later-Ticks (kernel true_one s) x.0 i j x.3 in
            (y.0, (y.0, (x.0, x.1, omega (arith, x.2, sum), y.1), refl), (es y.0 j).0 y.2),
        λ h.
            let c : ℕ = h.1.1.0 in
            let there = subst (λ k. Ticks c i k) h.1.2 h.1.1.3 in
            some-one_of (later true_one (kernel true_one s)) least (most - least) i j c h.1.1.1
            (omega (arith, h.1.1.2, sum)) (Ticks-later (kernel true_one s) c i j (h.0, there, (es h.0 j).1 h.2)),
      ))
  plan-kernel (repeat r least most) ordered =
      moving-kernel (repeat r least most) (loop (plan true_one r) least most) ordered (λ i j.
      let er = plan-kernel r ordered.1 in (
        λ h. (
          h.0,
          h.1,
          h.2,
          Chain-map (Matches holds (kernel true_one r)) (Matches holds (plan_sequence (plan true_one r)))
              (λ a b. (er a b).0) h.0 i j h.3,
        ),
        λ h. (
          h.0,
          h.1,
          h.2,
          Chain-map (Matches holds (plan_sequence (plan true_one r))) (Matches holds (kernel true_one r))
              (λ a b. (er a b).1) h.0 i j h.3,
        ),
      ))
  plan-kernel (or r s) ordered = moving-kernel (or r s) (any (plan true_one r) (plan true_one s)) ordered (λ i j.
      let er = plan-kernel r ordered.0 in
      let es = plan-kernel s ordered.1 in (
        λ h. elim h [ inl a ↦ inl ((er i j).0 a) | inr a ↦ inr ((es i j).0 a) ],
        λ h. elim h [ inl a ↦ inl ((er i j).1 a) | inr a ↦ inr ((es i j).1 a) ],
      ))
  plan-kernel (and r s) ordered = moving-kernel (and r s) (all (plan true_one r) (plan true_one s)) ordered (λ i j.
      let er = plan-kernel r ordered.0 in
      let es = plan-kernel s ordered.1 in (
        λ h. (h.0, h.1, (er i h.0).0 h.2, (es i h.1).0 h.3, h.4),
        λ h. (h.0, h.1, (er i h.0).1 h.2, (es i h.1).1 h.3, h.4),
      ))
  plan-kernel (intersect r s) ordered =
      moving-kernel (intersect r s) (pair (plan true_one r) (plan true_one s)) ordered (λ i j.
      let er = plan-kernel r ordered.0 in
      let es = plan-kernel s ordered.1 in
      (λ h. ((er i j).0 h.0, (es i j).0 h.1), λ h. ((er i j).1 h.0, (es i j).1 h.1)))
  plan-kernel (throughout b r) ordered = moving-kernel (throughout b r) (under b (plan true_one r)) ordered (λ i j.
      let er = plan-kernel r ordered in
      (λ h. ((er i j).0 h.0, h.1), λ h. ((er i j).1 h.0, h.1)))
