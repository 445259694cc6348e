-- The negation of `until`, over booleans, is an `until` of negations.
use Rattle.std.proofs.Common.{◌≡◌, inl, inr, ◌⊎◌, ℕ, zero, suc, ◌+◌, ◌-◌, ◌<◌, ◌≤◌, Bool, refl, subst, arith}
use Rattle.std.specs.Prelude.{IsTrue, nat_lt}
use Rattle.std.proofs.lemmas.Bool.{cases_lt, cases_eq, and_parts, ltb-true}
use Rattle.assertions.specs.Segments.{one, sat}
use Rattle.import_properties.specs.declared.condition.Condition.{Condition}
use Rattle.import_properties.specs.Conditions.{negation, value_of, unsat}
use Rattle.import_properties.specs.Properties.{Form, sequence, negated, both, until}
use Rattle.import_properties.specs.Outcomes.{ComesTo, ComesToSame, failed, good}
use Rattle.import_properties.proofs.FormLaws.{seen_or_free, seen_not_free, free_or_seen, free_not_seen}

module _ (leaves : ℕ → ℕ → Bool) (n : ℕ) where
  abbrev has_failed : Form Condition → ℕ → Type 0
  has_failed p k = ComesTo (value_of leaves) n p failed k

  abbrev is_good : Form Condition → ℕ → Type 0
  is_good p k = ComesTo (value_of leaves) n p good k

  abbrev at : Condition → Form Condition
  at b = sequence (one b)

  -- b was seen true where its negation has failed
  good-negation : (b : Condition) (k : ℕ) → has_failed (at (negation b)) k → is_good (at b) k
  good-negation b k x = elim (seen_or_free leaves n b k) [
    | inl seen ↦ (k + 1, omega arith, (refl, seen))
    | inr free ↦ absurd (x (k + 1) (omega arith) (refl, free))
  ]

  failed-negation : (b : Condition) (k : ℕ) → is_good (at b) k → has_failed (at (negation b)) k
  failed-negation b k x j some match = seen_not_free leaves n b k x.2.1 match.1

  -- its negation was seen true where b has failed
  good-after : (b : Condition) (k : ℕ) → has_failed (at b) k → is_good (at (negation b)) k
  good-after b k x = elim (free_or_seen leaves n b k) [
    | inl free ↦ absurd (x (k + 1) (omega arith) (refl, free))
    | inr seen ↦ (k + 1, omega arith, (refl, seen))
  ]

  failed-after : (b : Condition) (k : ℕ) → is_good (at (negation b)) k → has_failed (at b) k
  failed-after b k x j some match = free_not_seen leaves n b k match.1 x.2.1

  -- nothing is seen true for ever
  not-ever : (b : Condition) (c : ℕ) → ((k : ℕ) → c ≤ k → is_good (at b) k) → ⊥
  not-ever b c x =
      let last = (x (c + n) (omega arith)).2.1 in
      absurd (omega (arith, ltb-true (c + n) n (and_parts (nat_lt (c + n) n) (value_of leaves b (c + n)) last).0))

  up_to : (P : ℕ → Type 0) (c k : ℕ) → ((m : ℕ) → c ≤ m → m < k → P m) → P k → (m : ℕ) → c ≤ m → m ≤ k → P m
  up_to P c k before last m from to = elim (cases_lt m k) [
    | inl below ↦ before m from below
    | inr reached ↦ let e : k ≡ m = omega arith in subst P e last
  ]

  below_next : (P : ℕ → Type 0) (c k : ℕ) → ((m : ℕ) → c ≤ m → m < k → P m) → P k → (m : ℕ) → c ≤ m → m < k + 1 → P m
  below_next P c k before last m from below = up_to P c k before last m from (omega (arith, below))

  module _ (P Q : ℕ → Type 0) (c : ℕ) where
    -- the first tick at which Q holds, where each tick has one of the two and the last has Q
    first_of_two : (left k : ℕ) → c ≤ k → ((m : ℕ) → c ≤ m → m < k → P m)
        → ((m : ℕ) → c ≤ m → m ≤ k + left → P m ⊎ Q m) → Q (k + left)
        → (e : ℕ) × (c ≤ e) × Q e × ((m : ℕ) → c ≤ m → m < e → P m)
    first_of_two zero k from before each last =
        let e : k + 0 ≡ k = omega arith in
        (k, from, subst Q e last, before)
    first_of_two (suc left) k from before each last = elim (each k from (omega arith)) [
      | inr found ↦ (k, from, found, before)
      | inl more ↦
          let e : k + suc left ≡ k + 1 + left = omega arith in
          first_of_two left (k + 1) (omega (arith, from)) (below_next P c k before more)
          (λ m after to. each m after (omega (arith, to))) (subst Q e last)
    ]

    first_found : (e : ℕ) → c ≤ e → ((m : ℕ) → c ≤ m → m ≤ e → P m ⊎ Q m) → Q e
        → (e : ℕ) × (c ≤ e) × Q e × ((m : ℕ) → c ≤ m → m < e → P m)
    first_found e from each last =
        let left = e - c in
        let whole : e ≡ c + (e - c) = omega (arith, from) in
        first_of_two (e - c) c (omega arith) (λ m after below. absurd (omega (arith, after, below)))
        (λ m after to. each m after (omega (arith, to, from))) (subst Q whole last)

  module _ (b d : Condition) (c : ℕ) where
    until-good : is_good (until (at b) (at d)) c
        → has_failed (until (at (negation d)) (both (at (negation b)) (at (negation d)))) c
    until-good x = elim x [
      | inl a ↦ (
        a.0,
        a.1,
        failed-negation d a.0 a.2,
        up_to (λ k. has_failed (both (at (negation b)) (at (negation d))) k) c a.0
            (λ k from below. inl (failed-negation b k (a.3 k from below))) (inr (failed-negation d a.0 a.2)),
      )
      | inr a ↦ absurd (not-ever b c a)
    ]

    good-until : has_failed (until (at (negation d)) (both (at (negation b)) (at (negation d)))) c
        → is_good (until (at b) (at d)) c
    good-until x =
        let f =
        first_found (λ k. is_good (at b) k) (λ k. is_good (at d) k) c x.0 x.1
        (λ k from to. elim (x.3 k from to) [
          | inl a ↦ inl (good-negation b k a)
          | inr a ↦ inr (good-negation d k a)
        ]) (good-negation d x.0 x.2) in
        inl f

    until-failed : has_failed (until (at b) (at d)) c
        → is_good (until (at (negation d)) (both (at (negation b)) (at (negation d)))) c
    until-failed x =
        inl (
          x.0,
          x.1,
          (good-after b x.0 x.2, good-after d x.0 (x.3 x.0 x.1 (omega arith))),
          λ k from below. good-after d k (x.3 k from (omega (arith, below))),
        )

    failed-until : is_good (until (at (negation d)) (both (at (negation b)) (at (negation d)))) c
        → has_failed (until (at b) (at d)) c
    failed-until x = elim x [
      | inl a ↦ (
        a.0,
        a.1,
        failed-after b a.0 a.2.0,
        up_to (λ k. has_failed (at d) k) c a.0 (λ k from below. failed-after d k (a.3 k from below))
            (failed-after d a.0 a.2.1),
      )
      | inr a ↦ absurd (not-ever (negation d) c a)
    ]

    with-good : is_good (until (at b) (both (at b) (at d))) c
        → has_failed (until (at (negation d)) (at (negation b))) c
    with-good x = elim x [
      | inl a ↦ (
        a.0,
        a.1,
        failed-negation d a.0 a.2.1,
        up_to (λ k. has_failed (at (negation b)) k) c a.0 (λ k from below. failed-negation b k (a.3 k from below))
            (failed-negation b a.0 a.2.0),
      )
      | inr a ↦ absurd (not-ever b c a)
    ]

    good-with : has_failed (until (at (negation d)) (at (negation b))) c
        → is_good (until (at b) (both (at b) (at d))) c
    good-with x =
        inl (
          x.0,
          x.1,
          (good-negation b x.0 (x.3 x.0 x.1 (omega arith)), good-negation d x.0 x.2),
          λ k from below. good-negation b k (x.3 k from (omega (arith, below))),
        )

    with-failed : has_failed (until (at b) (both (at b) (at d))) c
        → is_good (until (at (negation d)) (at (negation b))) c
    with-failed x =
        let f =
        first_found (λ k. is_good (at (negation d)) k) (λ k. is_good (at (negation b)) k) c x.0 x.1
        (λ k from to. elim (x.3 k from to) [
          | inl a ↦ inr (good-after b k a)
          | inr a ↦ inl (good-after d k a)
        ]) (good-after b x.0 x.2) in
        inl f

    failed-with : is_good (until (at (negation d)) (at (negation b))) c
        → has_failed (until (at b) (both (at b) (at d))) c
    failed-with x = elim x [
      | inl a ↦ (
        a.0,
        a.1,
        failed-after b a.0 a.2,
        up_to (λ k. has_failed (both (at b) (at d)) k) c a.0
            (λ k from below. inr (failed-after d k (a.3 k from below))) (inl (failed-after b a.0 a.2)),
      )
      | inr a ↦ absurd (not-ever (negation d) c a)
    ]

pub negated-until : (b d : Condition)
    → ComesToSame (negated (until (sequence (one b)) (sequence (one d))))
    (until (sequence (one (negation d))) (both (sequence (one (negation b))) (sequence (one (negation d)))))
negated-until b d leaves n failed c = (until-good leaves n b d c, good-until leaves n b d c)
negated-until b d leaves n good c = (until-failed leaves n b d c, failed-until leaves n b d c)

pub negated-until_with : (b d : Condition)
    → ComesToSame (negated (until (sequence (one b)) (both (sequence (one b)) (sequence (one d)))))
    (until (sequence (one (negation d))) (sequence (one (negation b))))
negated-until_with b d leaves n failed c = (with-good leaves n b d c, good-with leaves n b d c)
negated-until_with b d leaves n good c = (with-failed leaves n b d c, failed-with leaves n b d c)
