-- Properties that come to the same.
use Rattle.std.proofs.Common.{◌≡◌, inl, inr, ◌⊎◌, ℕ, zero, suc, ◌+◌, ◌-◌, ◌<◌, ◌≤◌, Bool, true, false, not}
use Rattle.std.proofs.Common.{nat_le, max, refl, sym, ◌∙◌, subst, arith}
use Rattle.std.specs.Prelude.{nat_lt, IsTrue}
use Rattle.std.proofs.lemmas.Bool.{or_cases, or_left, or_right, and_parts, and_from, cases_lt, cases_eq, cases_Bool}
use Rattle.std.proofs.lemmas.Bool.{both_ways}
use Rattle.std.proofs.lemmas.Bool.{leb-true, le-leb, ltb-true, lt-ltb, not-true, not_from_false}
use Rattle.assertions.specs.Segments.{Seq, one, chop, fuse, sat, Matches}
use Rattle.assertions.specs.Segments as kernel
use Rattle.assertions.specs.Written as written
use Rattle.assertions.specs.Written.{one_of}
use Rattle.assertions.proofs.RangeLaws.{one_of-found, one_of-matches, after-found, after-matches, later-found}
use Rattle.assertions.proofs.RangeLaws.{later-matches}
use Rattle.import_properties.specs.declared.condition.Condition.{Condition}
use Rattle.import_properties.specs.declared.condition.Condition.TheVariants.{One, Zero, Leaf, Negated}
use Rattle.import_properties.specs.Conditions.{negation, value_of, unsat}
use Rattle.import_properties.specs.Properties.{Form, sequence, negated, either, both, implied, next}
use Rattle.import_properties.specs.Properties.{followed, later, each_later}
use Rattle.import_properties.specs.Outcomes.{ComesTo, ComesToSame, ComesToSameWithin, Outcome, failed, good}
use Rattle.import_properties.proofs.LetterLaws.{Matches-unsat-sat, Matches-sat-unsat, unsat-ends, match_or_none}

-- what comes to the same after each number of ticks
pub within : (bound : ℕ) (p q : Form Condition) → ComesToSame p q → ComesToSameWithin bound p q
within bound p q h leaves n o c le = h leaves n o c

pub same-swap : (p q : Form Condition) → ComesToSame p q → ComesToSame q p
same-swap p q h leaves n o c = ((h leaves n o c).1, (h leaves n o c).0)

pub same-refl : (bound : ℕ) (p : Form Condition) → ComesToSameWithin bound p p
same-refl bound p leaves n o c le = (λ h. h, λ h. h)

module _ (bound : ℕ) where
  pub same-sym : (p q : Form Condition) → ComesToSameWithin bound p q → ComesToSameWithin bound q p
  same-sym p q h leaves n o c le = ((h leaves n o c le).1, (h leaves n o c le).0)

  pub same-then : (p q r : Form Condition) → ComesToSameWithin bound p q → ComesToSameWithin bound q r
      → ComesToSameWithin bound p r
  same-then p q r g h leaves n o c le =
      (λ x. (h leaves n o c le).0 ((g leaves n o c le).0 x), λ x. (g leaves n o c le).1 ((h leaves n o c le).1 x))

  -- parts that come to the same
  pub same-negated : (p q : Form Condition) → ComesToSameWithin bound p q
      → ComesToSameWithin bound (negated p) (negated q)
  same-negated p q h leaves n failed c le = h leaves n good c le
  same-negated p q h leaves n good c le = h leaves n failed c le

  pub same-next : (p q : Form Condition) → ComesToSameWithin bound p q → ComesToSameWithin bound (next p) (next q)
  same-next p q h leaves n failed c le = h leaves n failed (c + 1) (omega (arith, le))
  same-next p q h leaves n good c le = h leaves n good (c + 1) (omega (arith, le))

  pub same-later : (k : ℕ) (p q : Form Condition) → ComesToSameWithin bound p q
      → ComesToSameWithin bound (later k p) (later k q)
  same-later zero p q h = h
  same-later (suc k) p q h = same-next (later k p) (later k q) (same-later k p q h)

  pub same-both : (p q r s : Form Condition) → ComesToSameWithin bound p r → ComesToSameWithin bound q s
      → ComesToSameWithin bound (both p q) (both r s)
  same-both p q r s g h leaves n failed c le = (
    λ x. elim x [ inl a ↦ inl ((g leaves n failed c le).0 a) | inr a ↦ inr ((h leaves n failed c le).0 a) ],
    λ x. elim x [ inl a ↦ inl ((g leaves n failed c le).1 a) | inr a ↦ inr ((h leaves n failed c le).1 a) ],
  )
  same-both p q r s g h leaves n good c le = (
    λ x. ((g leaves n good c le).0 x.0, (h leaves n good c le).0 x.1),
    λ x. ((g leaves n good c le).1 x.0, (h leaves n good c le).1 x.1),
  )

  pub same-either : (p q r s : Form Condition) → ComesToSameWithin bound p r → ComesToSameWithin bound q s
      → ComesToSameWithin bound (either p q) (either r s)
  same-either p q r s g h leaves n good c le = (
    λ x. elim x [ inl a ↦ inl ((g leaves n good c le).0 a) | inr a ↦ inr ((h leaves n good c le).0 a) ],
    λ x. elim x [ inl a ↦ inl ((g leaves n good c le).1 a) | inr a ↦ inr ((h leaves n good c le).1 a) ],
  )
  same-either p q r s g h leaves n failed c le = (
    λ x. ((g leaves n failed c le).0 x.0, (h leaves n failed c le).0 x.1),
    λ x. ((g leaves n failed c le).1 x.0, (h leaves n failed c le).1 x.1),
  )

  pub same-implied : (r : Seq Condition) (p q : Form Condition) → ComesToSameWithin bound p q
      → ComesToSameWithin bound (implied r p) (implied r q)
  same-implied r p q h leaves n failed c le = (
    λ x. (x.0, x.1, x.2, (h leaves n failed x.0 (omega (arith, le, x.1))).0 x.3),
    λ x. (x.0, x.1, x.2, (h leaves n failed x.0 (omega (arith, le, x.1))).1 x.3),
  )
  same-implied r p q h leaves n good c le = (
    λ x e from match. (h leaves n good e (omega (arith, le, from))).0 (x e from match),
    λ x e from match. (h leaves n good e (omega (arith, le, from))).1 (x e from match),
  )

  pub same-each_later : (first more : ℕ) (p q : Form Condition) → ComesToSameWithin bound p q
      → ComesToSameWithin bound (each_later first more p) (each_later first more q)
  same-each_later first zero p q h = same-later first p q h
  same-each_later first (suc more) p q h =
      same-both (later first p) (each_later (first + 1) more p) (later first q) (each_later (first + 1) more q)
      (same-later first p q h) (same-each_later (first + 1) more p q h)

-- an end of r ##0 t is an end of t from one of r
pub implied-fuse : (r t : Seq Condition) (p : Form Condition) → ComesToSame (implied (fuse r t) p)
    (implied r (implied t p))
implied-fuse r t p leaves n failed c = (
  λ x. (x.2.0, x.2.1, x.2.3, (x.0, omega (arith, x.2.2), x.2.4, x.3)),
  λ x. (x.3.0, omega (arith, x.1, x.3.1), (x.0, x.1, omega (arith, x.3.1), x.2, x.3.2), x.3.3),
)
implied-fuse r t p leaves n good c = (
  λ x m from front e after rest. x e (omega (arith, from, after)) (m, from, omega (arith, after), front, rest),
  λ x e from match. x match.0 match.1 match.3 e (omega (arith, match.2)) match.4,
)

-- an end of r or t is an end of one of them
pub implied-either : (r t : Seq Condition) (p : Form Condition)
    → ComesToSame (implied (kernel.either r t) p) (both (implied r p) (implied t p))
implied-either r t p leaves n failed c = (
  λ x. elim x.2 [ inl a ↦ inl (x.0, x.1, a, x.3) | inr a ↦ inr (x.0, x.1, a, x.3) ],
  λ x. elim x [ inl a ↦ (a.0, a.1, inl a.2, a.3) | inr a ↦ (a.0, a.1, inr a.2, a.3) ],
)
implied-either r t p leaves n good c = (
  λ x. (λ e from match. x e from (inl match), λ e from match. x e from (inr match)),
  λ x e from match. elim match [ inl a ↦ x.0 e from a | inr a ↦ x.1 e from a ],
)

-- sequences joined
pub sequence-either : (s t : Seq Condition) → ComesToSame (either (sequence s) (sequence t))
    (sequence (kernel.either s t))
sequence-either s t leaves n failed c = (
  λ x j some match. elim match [ inl a ↦ x.0 j some a | inr a ↦ x.1 j some a ],
  λ x. (λ j some match. x j some (inl match), λ j some match. x j some (inr match)),
)
sequence-either s t leaves n good c = (
  λ x. elim x [ inl a ↦ (a.0, a.1, inl a.2) | inr a ↦ (a.0, a.1, inr a.2) ],
  λ x. elim x.2 [ inl a ↦ inl (x.0, x.1, a) | inr a ↦ inr (x.0, x.1, a) ],
)

-- no match of r is empty
unfoldable pub TakesTicks : Seq Condition → Type 0
TakesTicks r = (holds : Condition → ℕ → Bool) (i j : ℕ) → Matches holds r i j → i < j

pub takes : (r : Seq Condition) → TakesTicks r → (holds : Condition → ℕ → Bool) (i j : ℕ) → Matches holds r i j → i < j
unfolding TakesTicks
takes r h = h

pub sequence-both : (s t : Seq Condition) → TakesTicks s → TakesTicks t
    → ComesToSame (both (sequence s) (sequence t)) (sequence (kernel.both s t))
sequence-both s t some_s some_t leaves n failed c = (
  λ x j some match. elim x [
    | inl a ↦ a match.0 (takes s some_s (sat (value_of leaves) n) c match.0 match.2) match.2
    | inr a ↦ a match.1 (takes t some_t (sat (value_of leaves) n) c match.1 match.3) match.3
  ],
  λ x. elim (match_or_none Condition (sat (value_of leaves) n) s c) [
    | inr none ↦ inl none
    | inl first ↦ inr (λ j some match.
        x (max first.0 j) (omega (arith, some)) (first.0, j, first.2, match, refl))
  ],
)
sequence-both s t some_s some_t leaves n good c = (
  λ x. (max x.0.0 x.1.0, omega (arith, x.0.1), (x.0.0, x.1.0, x.0.2, x.1.2, refl)),
  λ x. (
    (x.2.0, takes s some_s (unsat (value_of leaves) n) c x.2.0 x.2.2, x.2.2),
    (x.2.1, takes t some_t (unsat (value_of leaves) n) c x.2.1 x.2.3, x.2.3),
  ),
)

-- some end of r with s
pub followed-sequence : (r s : Seq Condition) → TakesTicks s
    → ComesToSame (followed r (sequence s)) (sequence (fuse r s))
followed-sequence r s some_s leaves n failed c = (
  λ x j some match. x match.0 match.1 match.3 j match.2 match.4,
  λ x e from front j some rest. x j (omega (arith, from, some)) (e, from, some, front, rest),
)
followed-sequence r s some_s leaves n good c = (
  λ x. (x.3.0, omega (arith, x.1, x.3.1), (x.0, x.1, x.3.1, x.2, x.3.2)),
  λ x. (x.2.0, x.2.1, x.2.3, (x.0, x.2.2, x.2.4)),
)

-- booleans: a match of b takes the one tick, and the two letters are each other's negations
not_not : (b : Bool) → not (not b) ≡ b
not_not true = refl
not_not false = refl

value-negation : (leaves : ℕ → ℕ → Bool) (b : Condition) (k : ℕ) → value_of leaves (negation b) k
    ≡ not (value_of leaves b k)
value-negation leaves One k = refl
value-negation leaves Zero k = refl
value-negation leaves (Leaf place) k = refl
value-negation leaves (Negated place) k = sym (not_not (leaves place k))

module _ (leaves : ℕ → ℕ → Bool) (n : ℕ) where
  -- b was seen true, or its negation may be true
  pub seen_or_free : (b : Condition) (k : ℕ) → IsTrue (unsat (value_of leaves) n b k)
      ⊎ IsTrue (sat (value_of leaves) n (negation b) k)
  seen_or_free b k = elim (cases_lt k n) [
    | inr late ↦ inr (or_left (nat_le n k) (value_of leaves (negation b) k) (le-leb n k late))
    | inl below ↦ elim (cases_Bool (value_of leaves b k)) [
      | inl on ↦ inl (and_from (nat_lt k n) (value_of leaves b k) (lt-ltb k n below) on)
      | inr off ↦ inr (or_right (nat_le n k) (value_of leaves (negation b) k)
          (value-negation leaves b k ∙ not_from_false (value_of leaves b k) off))
    ]
  ]

  -- and not both
  pub seen_not_free : (b : Condition) (k : ℕ) → IsTrue (unsat (value_of leaves) n b k)
      → IsTrue (sat (value_of leaves) n (negation b) k) → ⊥
  seen_not_free b k seen free =
      let p = and_parts (nat_lt k n) (value_of leaves b k) seen in
      elim (or_cases (nat_le n k) (value_of leaves (negation b) k) free) [
        | inl late ↦ absurd (omega (arith, ltb-true k n p.0, leb-true n k late))
        | inr on ↦ both_ways (value_of leaves b k)
            (not-true (value_of leaves b k) (sym (value-negation leaves b k) ∙ on)) p.1
      ]

  -- b may be true, or its negation was seen true
  pub free_or_seen : (b : Condition) (k : ℕ) → IsTrue (sat (value_of leaves) n b k)
      ⊎ IsTrue (unsat (value_of leaves) n (negation b) k)
  free_or_seen b k = elim (cases_lt k n) [
    | inr late ↦ inl (or_left (nat_le n k) (value_of leaves b k) (le-leb n k late))
    | inl below ↦ elim (cases_Bool (value_of leaves b k)) [
      | inl on ↦ inl (or_right (nat_le n k) (value_of leaves b k) on)
      | inr off ↦ inr (and_from (nat_lt k n) (value_of leaves (negation b) k) (lt-ltb k n below)
          (value-negation leaves b k ∙ not_from_false (value_of leaves b k) off))
    ]
  ]

  pub free_not_seen : (b : Condition) (k : ℕ) → IsTrue (sat (value_of leaves) n b k)
      → IsTrue (unsat (value_of leaves) n (negation b) k) → ⊥
  free_not_seen b k free seen =
      let p = and_parts (nat_lt k n) (value_of leaves (negation b) k) seen in
      elim (or_cases (nat_le n k) (value_of leaves b k) free) [
        | inl late ↦ absurd (omega (arith, ltb-true k n p.0, leb-true n k late))
        | inr on ↦ both_ways (value_of leaves b k)
            (not-true (value_of leaves b k) (sym (value-negation leaves b k) ∙ p.1)) on
      ]

-- where b is false there is no end, and where it is true there is one
pub implied-one : (b : Condition) (p : Form Condition)
    → ComesToSame (implied (one b) p) (either (sequence (one (negation b))) p)
implied-one b p leaves n failed c = (
  λ x.
      let here : x.0 ≡ c = omega (arith, x.2.0) in (
        λ j some match. seen_not_free leaves n b c x.2.1 match.1,
        subst (λ e. ComesTo (value_of leaves) n p failed e)
            here x.3,
      ),
  λ x. elim (seen_or_free leaves n b c) [
    | inl seen ↦ (c, omega arith, (refl, seen), x.1)
    | inr free ↦ absurd (x.0 (c + 1) (omega arith) (refl, free))
  ],
)
implied-one b p leaves n good c = (
  λ x. elim (free_or_seen leaves n b c) [
    | inl free ↦ inr (x c (omega arith) (refl, free))
    | inr seen ↦ inl (c + 1, omega arith, (refl, seen))
  ],
  λ x e from match.
      let here : c ≡ e = omega (arith, match.0) in
      elim x [
        | inl a ↦ absurd (free_not_seen leaves n b c match.1 a.2.1)
        | inr a ↦ subst (λ e. ComesTo (value_of leaves) n p good e) here a
      ],
)

-- so many ticks later
pub later-at : (value : Condition → ℕ → Bool) (n : ℕ) (p : Form Condition) (o : Outcome) (k c : ℕ)
    → ComesTo value n (later k p) o c → ComesTo value n p o (c + k)
later-at value n p o zero c h = let e : c ≡ c + 0 = omega arith in subst (λ m. ComesTo value n p o m) e h
later-at value n p failed (suc k) c h =
    let e : c + 1 + k ≡ c + suc k = omega arith in
    subst (λ m. ComesTo value n p failed m) e (later-at value n p failed k (c + 1) h)
later-at value n p good (suc k) c h =
    let e : c + 1 + k ≡ c + suc k = omega arith in
    subst (λ m. ComesTo value n p good m) e (later-at value n p good k (c + 1) h)

pub at-later : (value : Condition → ℕ → Bool) (n : ℕ) (p : Form Condition) (o : Outcome) (k c : ℕ)
    → ComesTo value n p o (c + k) → ComesTo value n (later k p) o c
at-later value n p o zero c h = let e : c + 0 ≡ c = omega arith in subst (λ m. ComesTo value n p o m) e h
at-later value n p failed (suc k) c h =
    let e : c + suc k ≡ c + 1 + k = omega arith in
    at-later value n p failed k (c + 1) (subst (λ m. ComesTo value n p failed m) e h)
at-later value n p good (suc k) c h =
    let e : c + suc k ≡ c + 1 + k = omega arith in
    at-later value n p good k (c + 1) (subst (λ m. ComesTo value n p good m) e h)

module _ (value : Condition → ℕ → Bool) (n : ℕ) (p : Form Condition) where
  -- one of the ticks of a range fails, or each is good
  pub each_later-found : (first more c : ℕ) → ComesTo value n (each_later first more p) failed c
      → (k : ℕ) × (first ≤ k) × (k ≤ first + more) × ComesTo value n p failed (c + k)
  each_later-found first zero c h = (first, omega arith, omega arith, later-at value n p failed first c h)
  each_later-found first (suc more) c h = elim h [
    | inl a ↦ (first, omega arith, omega arith, later-at value n p failed first c a)
    | inr a ↦ let f = each_later-found (first + 1) more c a in (f.0, omega (arith, f.1), omega (arith, f.2), f.3)
  ]

  pub found-each_later : (first more c k : ℕ) → first ≤ k → k ≤ first + more → ComesTo value n p failed (c + k)
      → ComesTo value n (each_later first more p) failed c
  found-each_later first zero c k from to h =
      let e : k ≡ first = omega arith in
      at-later value n p failed first c (subst (λ m. ComesTo value n p failed (c + m)) e h)
  found-each_later first (suc more) c k from to h = elim (cases_eq first k) [
    | inl e ↦ inl (at-later value n p failed first c (subst (λ m. ComesTo value n p failed (c + m)) (sym e) h))
    | inr ne ↦ inr (found-each_later (first + 1) more c k (omega arith) (omega arith) h)
  ]

  pub each_later-each : (first more c k : ℕ) → first ≤ k → k ≤ first + more
      → ComesTo value n (each_later first more p) good c → ComesTo value n p good (c + k)
  each_later-each first zero c k from to h =
      let e : first ≡ k = omega arith in
      subst (λ m. ComesTo value n p good (c + m)) e (later-at value n p good first c h)
  each_later-each first (suc more) c k from to h = elim (cases_eq first k) [
    | inl e ↦ subst (λ m. ComesTo value n p good (c + m)) e (later-at value n p good first c h.0)
    | inr ne ↦ each_later-each (first + 1) more c k (omega arith) (omega arith) h.1
  ]

  pub each-each_later : (first more c : ℕ)
      → ((k : ℕ) → first ≤ k → k ≤ first + more → ComesTo value n p good (c + k))
      → ComesTo value n (each_later first more p) good c
  each-each_later first zero c h = at-later value n p good first c (h first (omega arith) (omega arith))
  each-each_later first (suc more) c h = (
    at-later value n p good first c (h first (omega arith) (omega arith)),
    each-each_later (first + 1) more c (λ k from to. h k (omega arith) (omega arith)),
  )

-- ends of what is delayed
module _ (holds : Condition → ℕ → Bool) (r t : Seq Condition) (some_r : TakesTicks r) (some_t : TakesTicks t) where
  pub after-split : (k c e : ℕ) → Matches holds (written.after One r t k) c (e + 1)
      → (m : ℕ) × (c ≤ m) × (m + k ≤ e) × Matches holds r c (m + 1) × Matches holds t (m + k) (e + 1)
  after-split zero c e h =
      let at : h.0 ≡ h.0 + 0 = omega arith in
      (h.0, h.1, omega (arith, h.2), h.3, subst (λ m. Matches holds t m (e + 1)) at h.4)
  after-split (suc k) c e h =
      let f = after-found Condition holds One r t (suc k) c (e + 1) (omega arith) h in
      let first : c < f.0 = takes r some_r holds c f.0 f.1 in
      let second : f.0 + (suc k - 1) < e + 1 = takes t some_t holds (f.0 + (suc k - 1)) (e + 1) f.2 in
      let end : f.0 ≡ f.0 - 1 + 1 = omega arith in
      let begin : f.0 + (suc k - 1) ≡ f.0 - 1 + suc k = omega arith in (
        f.0 - 1,
        omega arith,
        omega arith,
        subst (λ m. Matches holds r c m) end f.1,
        subst (λ m. Matches holds t m (e + 1)) begin f.2,
      )

  pub after-join : ((k : ℕ) → IsTrue (holds One k)) → (k c m e : ℕ) → c ≤ m → m + k ≤ e
      → Matches holds r c (m + 1) → Matches holds t (m + k) (e + 1) → Matches holds (written.after One r t k) c (e + 1)
  after-join true_one zero c m e from to front rest =
      let at : m + 0 ≡ m = omega arith in
      (m, from, omega (arith, to), front, subst (λ m. Matches holds t m (e + 1)) at rest)
  after-join true_one (suc k) c m e from to front rest =
      let begin : m + suc k ≡ m + 1 + (suc k - 1) = omega arith in
      after-matches Condition holds One true_one r t (suc k) c (m + 1) (e + 1) (omega arith) front
      (subst (λ m. Matches holds t m (e + 1)) begin rest)

pub sat-one : (leaves : ℕ → ℕ → Bool) (n k : ℕ) → IsTrue (sat (value_of leaves) n One k)
sat-one leaves n k = or_right (nat_le n k) (value_of leaves One k) refl

-- an end of r ##[m:n] t is an end of t, so many ticks after one of r
pub implied-delay : (r t : Seq Condition) (first more : ℕ) (p : Form Condition) → TakesTicks r → TakesTicks t
    → ComesToSame (implied (one_of first more (written.after One r t)) p)
    (implied r (each_later first more (implied t p)))
implied-delay r t first more p some_r some_t leaves n failed c = (
  λ x.
      let f = one_of-found Condition (unsat (value_of leaves) n) (written.after One r t) first more c (x.0 + 1) x.2 in
      let m = after-split (unsat (value_of leaves) n) r t some_r some_t f.0 c x.0 f.3 in (
        m.0,
        m.1,
        m.3,
        found-each_later (value_of leaves) n (implied t p) first more m.0 f.0 f.1 f.2 (x.0, m.2, m.4, x.3),
      ),
  λ x.
      let f = each_later-found (value_of leaves) n (implied t p) first more x.0 x.3 in
      let e = f.3.0 in
      let ends : e + 1 ≤ n =
      unsat-ends Condition (value_of leaves) n t (x.0 + f.0) (e + 1) (omega (arith, f.3.1)) f.3.2 in
      let joined =
      after-join (sat (value_of leaves) n) r t some_r some_t (sat-one leaves n) f.0 c x.0 e x.1 f.3.1
      (Matches-unsat-sat Condition (value_of leaves) n r c (x.0 + 1) x.2)
      (Matches-unsat-sat Condition (value_of leaves) n t (x.0 + f.0) (e + 1) f.3.2) in (
        e,
        omega (arith, x.1, f.3.1),
        Matches-sat-unsat Condition (value_of leaves) n (one_of first more (written.after One r t)) c (e + 1) ends
            (one_of-matches Condition (sat (value_of leaves) n) (written.after One r t) first more c (e + 1) f.0 f.1
            f.2 joined),
        f.3.3,
      ),
)
implied-delay r t first more p some_r some_t leaves n good c = (
  λ x m from front.
      each-each_later (value_of leaves) n (implied t p) first more m (λ k least most e after rest.
      x e (omega (arith, from, after))
      (one_of-matches Condition (sat (value_of leaves) n) (written.after One r t) first more c (e + 1) k least most
      (after-join (sat (value_of leaves) n) r t some_r some_t (sat-one leaves n) k c m e from after front rest))),
  λ x e from match.
      let f = one_of-found Condition (sat (value_of leaves) n) (written.after One r t) first more c (e + 1) match in
      let m = after-split (sat (value_of leaves) n) r t some_r some_t f.0 c e f.3 in
      each_later-each (value_of leaves) n (implied t p) first more m.0 f.0 f.1 f.2 (x m.0 m.1 m.3) e m.2 m.4,
)

-- an end of ##[m:n] t is an end of t, so many ticks later
pub implied-lead : (t : Seq Condition) (first more : ℕ) (p : Form Condition) → TakesTicks t
    → ComesToSame (implied (one_of first more (written.later One t)) p) (each_later first more (implied t p))
implied-lead t first more p some_t leaves n failed c = (
  λ x.
      let f = one_of-found Condition (unsat (value_of leaves) n) (written.later One t) first more c (x.0 + 1) x.2 in
      let rest = later-found Condition (unsat (value_of leaves) n) One t f.0 c (x.0 + 1) f.3 in
      found-each_later (value_of leaves) n (implied t p) first more c f.0 f.1 f.2
      (x.0, omega (arith, takes t some_t (unsat (value_of leaves) n) (c + f.0) (x.0 + 1) rest), rest, x.3),
  λ x.
      let f = each_later-found (value_of leaves) n (implied t p) first more c x in
      let e = f.3.0 in
      let ends : e + 1 ≤ n =
      unsat-ends Condition (value_of leaves) n t (c + f.0) (e + 1) (omega (arith, f.3.1)) f.3.2 in (
        e,
        omega (arith, f.3.1),
        Matches-sat-unsat Condition (value_of leaves) n (one_of first more (written.later One t)) c (e + 1) ends
            (one_of-matches Condition (sat (value_of leaves) n) (written.later One t) first more c (e + 1) f.0 f.1 f.2
            (later-matches Condition (sat (value_of leaves) n) One (sat-one leaves n) t f.0 c (e + 1)
            (Matches-unsat-sat Condition (value_of leaves) n t (c + f.0) (e + 1) f.3.2))),
        f.3.3,
      ),
)
implied-lead t first more p some_t leaves n good c = (
  λ x. each-each_later (value_of leaves) n (implied t p) first more c (λ k least most e after rest.
      x e (omega (arith, after))
      (one_of-matches Condition (sat (value_of leaves) n) (written.later One t) first more c (e + 1) k least most
      (later-matches Condition (sat (value_of leaves) n) One (sat-one leaves n) t k c (e + 1) rest))),
  λ x e from match.
      let f = one_of-found Condition (sat (value_of leaves) n) (written.later One t) first more c (e + 1) match in
      let rest = later-found Condition (sat (value_of leaves) n) One t f.0 c (e + 1) f.3 in
      each_later-each (value_of leaves) n (implied t p) first more c f.0 f.1 f.2 x e
      (omega (arith, takes t some_t (sat (value_of leaves) n) (c + f.0) (e + 1) rest)) rest,
)

-- a sequence so many ticks later
pub sequence-later : (k : ℕ) (s : Seq Condition) → TakesTicks s
    → ComesToSame (later k (sequence s)) (sequence (written.later One s k))
sequence-later k s some_s leaves n failed c = (
  λ x j some match.
      let rest = later-found Condition (sat (value_of leaves) n) One s k c j match in
      later-at (value_of leaves) n (sequence s) failed k c x j
      (takes s some_s (sat (value_of leaves) n) (c + k) j rest) rest,
  λ x. at-later (value_of leaves) n (sequence s) failed k c (λ j some match.
      x j (omega (arith, some))
      (later-matches Condition (sat (value_of leaves) n) One (sat-one leaves n) s k c j match)),
)
sequence-later k s some_s leaves n good c = (
  λ x.
      let f = later-at (value_of leaves) n (sequence s) good k c x in
      let ends : f.0 ≤ n = unsat-ends Condition (value_of leaves) n s (c + k) f.0 f.1 f.2 in (
        f.0,
        omega (arith, f.1),
        Matches-sat-unsat Condition (value_of leaves) n (written.later One s k) c f.0 ends
            (later-matches Condition (sat (value_of leaves) n) One (sat-one leaves n) s k c f.0
            (Matches-unsat-sat Condition (value_of leaves) n s (c + k) f.0 f.2)),
      ),
  λ x.
      let rest = later-found Condition (unsat (value_of leaves) n) One s k c x.0 x.2 in
      at-later (value_of leaves) n (sequence s) good k c
      (x.0, takes s some_s (unsat (value_of leaves) n) (c + k) x.0 rest, rest),
)
