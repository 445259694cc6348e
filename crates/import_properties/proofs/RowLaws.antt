-- Forms of properties, as sequences that come to the same.
use Rattle.std.proofs.Common.{◌≡◌, inl, inr, ◌⊎◌, ℕ, zero, suc, ◌+◌, ◌-◌, ◌<◌, ◌≤◌, Bool, false, refl, sym, subst}
use Rattle.std.proofs.Common.{arith}
use Rattle.std.specs.Prelude.{IsTrue, nat_lt, nat_le}
use Rattle.std.proofs.lemmas.Bool.{cases_lt, cases_eq, cases_Bool, both_ways, and_parts, ltb-true, or_left, le-leb}
use Rattle.std.proofs.lemmas.Bool.{or_cases, leb-true}
use Rattle.assertions.specs.Segments.{Seq, one, chop, fuse, times, Chain, sat, Matches}
use Rattle.assertions.specs.Segments as kernel
use Rattle.assertions.specs.Written as written
use Rattle.assertions.specs.Written.{one_of}
use Rattle.import_properties.specs.declared.condition.Condition.{Condition}
use Rattle.import_properties.specs.declared.condition.Condition.TheVariants.{One, Zero}
use Rattle.import_properties.specs.Conditions.{negation, value_of, unsat}
use Rattle.import_properties.specs.Properties.{Form, sequence, negated, either, both, implied, next, until}
use Rattle.import_properties.specs.Properties.{followed, chosen, later, strong_later, each_later, some_later}
use Rattle.import_properties.specs.Outcomes.{ComesTo, ComesToSame, ComesToSameWithin, failed, good}
use Rattle.import_properties.proofs.LetterLaws.{unsat-ends, unsat-sat, sat-unsat}
use Rattle.import_properties.proofs.FormLaws.{within, same-next, same-both, same-either, same-negated, same-implied}
use Rattle.import_properties.proofs.FormLaws.{sequence-later}
use Rattle.import_properties.proofs.FormLaws.{sequence-either, TakesTicks, takes, each_later-found, found-each_later}
use Rattle.import_properties.proofs.FormLaws.{each_later-each, each-each_later, later-at, at-later, seen_or_free}
use Rattle.import_properties.proofs.FormLaws.{seen_not_free}
use Rattle.import_properties.proofs.FormLaws.{free_or_seen, free_not_seen}

-- a match of s may still come, from each tick that wasn't seen
abbrev pub GoesOn : Seq Condition → Type 0
GoesOn s =
    (leaves : ℕ → ℕ → Bool) (n k : ℕ) → n ≤ k → ComesTo (value_of leaves) n (sequence s) failed k → ⊥

-- negations go inwards
pub negated-negated : (p : Form Condition) → ComesToSame (negated (negated p)) p
negated-negated p leaves n failed c = (λ h. h, λ h. h)
negated-negated p leaves n good c = (λ h. h, λ h. h)

pub negated-both : (p q : Form Condition) → ComesToSame (negated (both p q)) (either (negated p) (negated q))
negated-both p q leaves n failed c = (λ h. h, λ h. h)
negated-both p q leaves n good c = (λ h. h, λ h. h)

pub negated-either : (p q : Form Condition) → ComesToSame (negated (either p q)) (both (negated p) (negated q))
negated-either p q leaves n failed c = (λ h. h, λ h. h)
negated-either p q leaves n good c = (λ h. h, λ h. h)

pub negated-implied : (r : Seq Condition) (p : Form Condition)
    → ComesToSame (negated (implied r p)) (followed r (negated p))
negated-implied r p leaves n failed c = (λ h. h, λ h. h)
negated-implied r p leaves n good c = (λ h. h, λ h. h)

pub negated-followed : (r : Seq Condition) (p : Form Condition)
    → ComesToSame (negated (followed r p)) (implied r (negated p))
negated-followed r p leaves n failed c = (λ h. h, λ h. h)
negated-followed r p leaves n good c = (λ h. h, λ h. h)

pub negated-later : (k : ℕ) (p : Form Condition) → ComesToSame (negated (later k p)) (later k (negated p))
negated-later zero p leaves n o c = (λ h. h, λ h. h)
negated-later (suc k) p leaves n failed c = negated-later k p leaves n failed (c + 1)
negated-later (suc k) p leaves n good c = negated-later k p leaves n good (c + 1)

pub strong_later-later : (k : ℕ) (p : Form Condition) → ComesToSame (strong_later k p) (later k p)
strong_later-later zero p leaves n o c = (λ h. h, λ h. h)
strong_later-later (suc k) p leaves n failed c = strong_later-later k p leaves n failed (c + 1)
strong_later-later (suc k) p leaves n good c = strong_later-later k p leaves n good (c + 1)

-- at the first tick of a range
negated-later-strong : (k : ℕ) (p : Form Condition)
    → ComesToSame (negated (later k p)) (strong_later k (negated p))
negated-later-strong k p leaves n o c =
    let weak = negated-later k p leaves n o c in
    let strong = strong_later-later k (negated p) leaves n o c in
    (λ h. strong.1 (weak.0 h), λ h. weak.1 (strong.0 h))

negated-strong-later : (k : ℕ) (p : Form Condition)
    → ComesToSame (negated (strong_later k p)) (later k (negated p))
negated-strong-later k p leaves n failed c =
    let weak = negated-later k p leaves n failed c in
    let strong = strong_later-later k p leaves n good c in
    (λ h. weak.0 (strong.0 h), λ h. strong.1 (weak.1 h))
negated-strong-later k p leaves n good c =
    let weak = negated-later k p leaves n good c in
    let strong = strong_later-later k p leaves n failed c in
    (λ h. weak.0 (strong.0 h), λ h. strong.1 (weak.1 h))

strong_later-sequence : (k : ℕ) (s : Seq Condition) → TakesTicks s
    → ComesToSame (strong_later k (sequence s)) (sequence (written.later One s k))
strong_later-sequence k s some_s leaves n o c =
    let strong = strong_later-later k (sequence s) leaves n o c in
    let at = sequence-later k s some_s leaves n o c in
    (λ h. at.0 (strong.0 h), λ h. strong.1 (at.1 h))

pub negated-each_later : (first more : ℕ) (p : Form Condition)
    → ComesToSame (negated (each_later first more p)) (some_later first more (negated p))
negated-each_later first zero p leaves n o c = negated-later-strong first p leaves n o c
negated-each_later first (suc more) p leaves n failed c =
    let here = negated-later-strong first p leaves n failed c in
    let there = negated-each_later (first + 1) more p leaves n failed c in
    (λ h. (here.0 h.0, there.0 h.1), λ h. (here.1 h.0, there.1 h.1))
negated-each_later first (suc more) p leaves n good c =
    let here = negated-later-strong first p leaves n good c in
    let there = negated-each_later (first + 1) more p leaves n good c in (
      λ h. elim h [ inl a ↦ inl (here.0 a) | inr a ↦ inr (there.0 a) ],
      λ h. elim h [ inl a ↦ inl (here.1 a) | inr a ↦ inr (there.1 a) ],
    )

pub negated-some_later : (first more : ℕ) (p : Form Condition)
    → ComesToSame (negated (some_later first more p)) (each_later first more (negated p))
negated-some_later first zero p leaves n o c = negated-strong-later first p leaves n o c
negated-some_later first (suc more) p leaves n failed c =
    let here = negated-strong-later first p leaves n failed c in
    let there = negated-some_later (first + 1) more p leaves n failed c in (
      λ h. elim h [ inl a ↦ inl (here.0 a) | inr a ↦ inr (there.0 a) ],
      λ h. elim h [ inl a ↦ inl (here.1 a) | inr a ↦ inr (there.1 a) ],
    )
negated-some_later first (suc more) p leaves n good c =
    let here = negated-strong-later first p leaves n good c in
    let there = negated-some_later (first + 1) more p leaves n good c in
    (λ h. (here.0 h.0, there.0 h.1), λ h. (here.1 h.0, there.1 h.1))

-- some tick of a range
pub some_later-sequence : (first more : ℕ) (s : Seq Condition) → TakesTicks s
    → ComesToSame (some_later first more (sequence s)) (sequence (one_of first more (written.later One s)))
some_later-sequence first zero s some_s leaves n o c = strong_later-sequence first s some_s leaves n o c
some_later-sequence first (suc more) s some_s leaves n failed c =
    let here = strong_later-sequence first s some_s leaves n failed c in
    let there = some_later-sequence (first + 1) more s some_s leaves n failed c in
    let joined =
    sequence-either (written.later One s first) (one_of (first + 1) more (written.later One s)) leaves n failed c in (
      λ h. joined.0 (here.0 h.0, there.0 h.1),
      λ h. let parts = joined.1 h in (here.1 parts.0, there.1 parts.1),
    )
some_later-sequence first (suc more) s some_s leaves n good c =
    let here = strong_later-sequence first s some_s leaves n good c in
    let there = some_later-sequence (first + 1) more s some_s leaves n good c in
    let joined =
    sequence-either (written.later One s first) (one_of (first + 1) more (written.later One s)) leaves n good c in (
      λ h. joined.0 (elim h [ inl a ↦ inl (here.0 a) | inr a ↦ inr (there.0 a) ]),
      λ h. elim (joined.1 h) [ inl a ↦ inl (here.1 a) | inr a ↦ inr (there.1 a) ],
    )

-- a boolean at so many ticks
module _ (holds : Condition → ℕ → Bool) (b : Condition) where
  pub ones-length : (count i j : ℕ) → Chain (Matches holds (one b)) count i j → j ≡ i + count
  ones-length zero i j h = omega (arith, h)
  ones-length (suc count) i j h = omega (arith, ones-length count i h.0 h.1, h.2.0)

  pub ones-each : (count i j k : ℕ) → Chain (Matches holds (one b)) count i j → i ≤ k → k < j → IsTrue (holds b k)
  ones-each zero i j k h from below = absurd (omega (arith, h, from, below))
  ones-each (suc count) i j k h from below = elim (cases_lt k h.0) [
    | inl before ↦ ones-each count i h.0 k h.1 from before
    | inr last ↦
        let here : h.0 ≡ k = omega (arith, last, below, h.2.0) in
        subst (λ m. IsTrue (holds b m)) here h.2.1
  ]

  pub each-ones : (count i j : ℕ) → j ≡ i + count → ((k : ℕ) → i ≤ k → k < j → IsTrue (holds b k))
      → Chain (Matches holds (one b)) count i j
  each-ones zero i j e h = omega (arith, e)
  each-ones (suc count) i j e h = (
    i + count,
    each-ones count i (i + count) refl (λ k from below. h k from (omega (arith, e, below))),
    (omega (arith, e), h (i + count) (omega arith) (omega (arith, e))),
  )

-- the first of some ticks at which a boolean doesn't hold, or none
module _ (holds : Condition → ℕ → Bool) (b : Condition) where
  pub broken_or_each : (count i : ℕ) → ((k : ℕ) × (i ≤ k) × (k < i + count) × (IsTrue (holds b k) → ⊥))
      ⊎ ((k : ℕ) → i ≤ k → k < i + count → IsTrue (holds b k))
  broken_or_each zero i = inr (λ k from below. absurd (omega (arith, from, below)))
  broken_or_each (suc count) i = elim (cases_Bool (holds b i)) [
    | inr off ↦ inl (i, omega arith, omega arith, λ on. both_ways (holds b i) off on)
    | inl on ↦ elim (broken_or_each count (i + 1)) [
      | inl f ↦ inl (f.0, omega (arith, f.1), omega (arith, f.2), f.3)
      | inr each ↦ inr (λ k from below. elim (cases_eq i k) [
        | inl e ↦ subst (λ m. IsTrue (holds b m)) e on
        | inr ne ↦ each k (omega arith) (omega arith)
      ])
    ]
  ]

-- a boolean at each tick of a range: b[*k] at the first one
module _ (first more : ℕ) (b : Condition) (leaves : ℕ → ℕ → Bool) (n c : ℕ) where
  abbrev holding : Form Condition
  holding = sequence (times (one b) (more + 1) (more + 1))

  each-broken : ComesTo (value_of leaves) n (each_later first more (sequence (one b))) failed c
      → ComesTo (value_of leaves) n (later first holding) failed c
  each-broken x =
      let f = each_later-found (value_of leaves) n (sequence (one b)) first more c x in
      at-later (value_of leaves) n holding failed first c (λ j some match.
      let length = ones-length (sat (value_of leaves) n) b match.0 (c + first) j match.3 in
      f.3 (c + f.0 + 1) (omega arith) (
        refl,
        ones-each (sat (value_of leaves) n) b match.0 (c + first) j (c + f.0) match.3 (omega (arith, f.1))
            (omega (arith, f.2, length, match.1)),
      ))

  broken-each : ComesTo (value_of leaves) n (later first holding) failed c
      → ComesTo (value_of leaves) n (each_later first more (sequence (one b))) failed c
  broken-each x = elim (broken_or_each (sat (value_of leaves) n) b (more + 1) (c + first)) [
    | inl f ↦
        let at : f.0 ≡ c + (f.0 - c) = omega (arith, f.1) in
        found-each_later (value_of leaves) n (sequence (one b)) first more c (f.0 - c) (omega (arith, f.1))
        (omega (arith, f.1, f.2))
        (subst (λ m. ComesTo (value_of leaves) n (sequence (one b)) failed m) at (λ j some match. f.3 match.1))
    | inr each ↦ absurd (later-at (value_of leaves) n holding failed first c x (c + first + (more + 1)) (omega arith) (
      more + 1,
      omega arith,
      omega arith,
      each-ones (sat (value_of leaves) n) b (more + 1) (c + first) (c + first + (more + 1)) refl each,
    ))
  ]

  each-held : ComesTo (value_of leaves) n (each_later first more (sequence (one b))) good c
      → ComesTo (value_of leaves) n (later first holding) good c
  each-held x =
      at-later (value_of leaves) n holding good first c (
        c + first + (more + 1),
        omega arith,
        (
          more + 1,
          omega arith,
          omega arith,
          each-ones (unsat (value_of leaves) n) b (more + 1) (c + first) (c + first + (more + 1)) refl (λ k from below.
              let at : c + (k - c) ≡ k = omega (arith, from) in
              let here =
              each_later-each (value_of leaves) n (sequence (one b)) first more c (k - c) (omega (arith, from))
              (omega (arith, below)) x in
              subst (λ m. IsTrue (unsat (value_of leaves) n b m)) at here.2.1),
        ),
      )

  held-each : ComesTo (value_of leaves) n (later first holding) good c
      → ComesTo (value_of leaves) n (each_later first more (sequence (one b))) good c
  held-each x =
      let f = later-at (value_of leaves) n holding good first c x in
      let chain = f.2.3 in
      let length = ones-length (unsat (value_of leaves) n) b f.2.0 (c + first) f.0 chain in
      each-each_later (value_of leaves) n (sequence (one b)) first more c (λ k least most. (
        c + k + 1,
        omega arith,
        (
          refl,
          ones-each (unsat (value_of leaves) n) b f.2.0 (c + first) f.0 (c + k) chain (omega (arith, least))
              (omega (arith, most, length, f.2.1)),
        ),
      ))

pub each_later-one : (first more : ℕ) (b : Condition)
    → ComesToSame (each_later first more (sequence (one b)))
    (later first (sequence (times (one b) (more + 1) (more + 1))))
each_later-one first more b leaves n failed c =
    (each-broken first more b leaves n c, broken-each first more b leaves n c)
each_later-one first more b leaves n good c = (each-held first more b leaves n c, held-each first more b leaves n c)

-- p until q for a boolean p, where more than bound ticks are not waited: p[*0:bound] ##1 q
module _ (bound : ℕ) (b : Condition) (s : Seq Condition) (some_s : TakesTicks s)
    (free : GoesOn s)
    (leaves : ℕ → ℕ → Bool) (n c : ℕ) (le : n ≤ c + bound) where
  abbrev waiting : Form Condition
  waiting = sequence (chop (times (one b) 0 bound) s)

  until-broken : ComesTo (value_of leaves) n (until (sequence (one b)) (sequence s)) failed c
      → ComesTo (value_of leaves) n waiting failed c
  until-broken x = λ j some match. elim (cases_lt x.0 match.0) [
    | inl inside ↦ x.2 (x.0 + 1) (omega arith)
        (refl, ones-each (sat (value_of leaves) n) b match.1.0 c match.0 x.0 match.1.3 x.1 inside)
    | inr after ↦ x.3 match.0
        (omega (arith, ones-length (sat (value_of leaves) n) b match.1.0 c match.0 match.1.3)) after j
        (takes s some_s (sat (value_of leaves) n) match.0 j match.2) match.2
  ]

  next_step : (k : ℕ) → c ≤ k → k ≤ c + bound
      → ((m : ℕ) → c ≤ m → m < k → IsTrue (sat (value_of leaves) n b m))
      → ComesTo (value_of leaves) n waiting failed c → ComesTo (value_of leaves) n (sequence s) failed k
  next_step k from near held x = λ j some match.
      x j (omega (arith, from, some)) (
        k,
        (
          k - c,
          omega arith,
          omega (arith, near),
          each-ones (sat (value_of leaves) n) b (k - c) c k (omega (arith, from)) held,
        ),
        match,
      )

  -- b may hold at each tick from c up to k, and s has failed at each
  walk : (left k : ℕ) → c ≤ k → n ≤ k + left → k ≤ c + bound
      → ((m : ℕ) → c ≤ m → m < k → IsTrue (sat (value_of leaves) n b m))
      → ((m : ℕ) → c ≤ m → m < k → ComesTo (value_of leaves) n (sequence s) failed m)
      → ComesTo (value_of leaves) n waiting failed c
      → ComesTo (value_of leaves) n (until (sequence (one b)) (sequence s)) failed c
  walk zero k from end near held broken x =
      absurd (free leaves n k (omega (arith, end)) (next_step k from near held x))
  walk (suc left) k from end near held broken x =
      let here = next_step k from near held x in
      let up_to : (m : ℕ) → c ≤ m → m ≤ k → ComesTo (value_of leaves) n (sequence s) failed m =
      λ m after to. elim (cases_lt m k) [
        | inl before ↦ broken m after before
        | inr last ↦ let e : k ≡ m =
            omega arith in subst (λ m. ComesTo (value_of leaves) n (sequence s) failed m) e here
      ] in
      elim (cases_Bool (sat (value_of leaves) n b k)) [
        | inl on ↦ elim (cases_lt k n) [
          | inr late ↦ absurd (free leaves n k late here)
          | inl below ↦ walk left (k + 1) (omega (arith, from)) (omega (arith, end)) (omega (arith, below, le))
              (λ m after before. elim (cases_lt m k) [
                | inl inside ↦ held m after inside
                | inr last ↦ let e : k ≡ m = omega arith in subst (λ m. IsTrue (sat (value_of leaves) n b m)) e on
              ])
              (λ m after before. up_to m after (omega (arith, before))) x
        ]
        | inr off ↦ (k, from, λ j some match. both_ways (sat (value_of leaves) n b k) off match.1, up_to)
      ]

  broken-until : ComesTo (value_of leaves) n waiting failed c
      → ComesTo (value_of leaves) n (until (sequence (one b)) (sequence s)) failed c
  broken-until x =
      walk n c (omega arith) (omega arith) (omega arith) (λ m after before. absurd (omega (arith, after, before)))
      (λ m after before. absurd (omega (arith, after, before))) x

  until-kept : ComesTo (value_of leaves) n (until (sequence (one b)) (sequence s)) good c
      → ComesTo (value_of leaves) n waiting good c
  until-kept x = elim x [
    | inl a ↦
        let match = a.2 in
        let ends = unsat-ends Condition (value_of leaves) n s a.0 match.0 match.1 match.2 in (
          match.0,
          omega (arith, a.1, match.1),
          (
            a.0,
            (
              a.0 - c,
              omega arith,
              omega (arith, le, ends, match.1, a.1),
              each-ones (unsat (value_of leaves) n) b (a.0 - c) c a.0 (omega (arith, a.1))
                  (λ k from below. let h = a.3 k from below in
                  let at : k + 1 ≡ k + 1 = refl in h.2.1),
            ),
            match.2,
          ),
        )
    | inr a ↦
        let last = (a (c + n) (omega arith)).2.1 in
        absurd (omega (arith, ltb-true (c + n) n (and_parts (nat_lt (c + n) n) (value_of leaves b (c + n)) last).0))
  ]

  kept-until : ComesTo (value_of leaves) n waiting good c
      → ComesTo (value_of leaves) n (until (sequence (one b)) (sequence s)) good c
  kept-until x =
      let m = x.2.0 in
      let chain = x.2.1 in
      let length = ones-length (unsat (value_of leaves) n) b chain.0 c m chain.3 in
      inl (
        m,
        omega (arith, length),
        (x.0, takes s some_s (unsat (value_of leaves) n) m x.0 x.2.2, x.2.2),
        λ k from below. (
          k + 1,
          omega arith,
          (refl, ones-each (unsat (value_of leaves) n) b chain.0 c m k chain.3 from below),
        ),
      )

-- p until q for a boolean p, where no more than bound ticks are seen from there: p[*0:bound] ##1 q
pub until-sequence : (bound : ℕ) (b : Condition) (s : Seq Condition) → TakesTicks s → GoesOn s
    → ComesToSameWithin bound (until (sequence (one b)) (sequence s)) (sequence (chop (times (one b) 0 bound) s))
until-sequence bound b s some_s free leaves n failed c le = (
  until-broken bound b s some_s free leaves n c le,
  broken-until bound b s some_s free leaves n c le,
)
until-sequence bound b s some_s free leaves n good c le = (
  until-kept bound b s some_s free leaves n c le,
  kept-until bound b s some_s free leaves n c le,
)

one-goes_on : (b : Condition) (leaves : ℕ → ℕ → Bool) (n k : ℕ) → n ≤ k → IsTrue (sat (value_of leaves) n b k)
one-goes_on b leaves n k late = or_left (nat_le n k) (value_of leaves b k) (le-leb n k late)

-- if (b) s else t, for sequences s and t
module _ (b : Condition) (s t : Seq Condition) (some_s : TakesTicks s) (some_t : TakesTicks t) (free_s : GoesOn s)
    (free_t : GoesOn t) (leaves : ℕ → ℕ → Bool) (n c : ℕ) where
  abbrev arms : Form Condition
  arms = sequence (kernel.either (fuse (one b) s) (fuse (one (negation b)) t))

  chosen-broken : ComesTo (value_of leaves) n (chosen b (sequence s) (sequence t)) failed c
      → ComesTo (value_of leaves) n arms failed c
  chosen-broken x j some match = elim match [
    | inl a ↦
        let at : a.0 ≡ c = omega (arith, a.3.0) in
        let rest = subst (λ m. Matches (sat (value_of leaves) n) s m j) at a.4 in
        elim x [
          | inl y ↦
              let here : y.0 ≡ c = omega (arith, y.2.0) in
              subst (λ m. ComesTo (value_of leaves) n (sequence s) failed m) here y.3 j some rest
          | inr y ↦ free_not_seen leaves n b c a.3.1 y.2.1
        ]
    | inr a ↦
        let at : a.0 ≡ c = omega (arith, a.3.0) in
        let rest = subst (λ m. Matches (sat (value_of leaves) n) t m j) at a.4 in
        elim x [
          | inl y ↦ seen_not_free leaves n b c y.2.1 a.3.1
          | inr y ↦
              let here : y.0 ≡ c = omega (arith, y.2.0) in
              subst (λ m. ComesTo (value_of leaves) n (sequence t) failed m) here y.3 j some rest
        ]
  ]

  first_arm : IsTrue (sat (value_of leaves) n b c) → ComesTo (value_of leaves) n arms failed c
      → ComesTo (value_of leaves) n (sequence s) failed c
  first_arm on x j some match = x j some (inl (c, omega arith, some, (refl, on), match))

  second_arm : IsTrue (sat (value_of leaves) n (negation b) c) → ComesTo (value_of leaves) n arms failed c
      → ComesTo (value_of leaves) n (sequence t) failed c
  second_arm on x j some match = x j some (inr (c, omega arith, some, (refl, on), match))

  broken-chosen : ComesTo (value_of leaves) n arms failed c
      → ComesTo (value_of leaves) n (chosen b (sequence s) (sequence t)) failed c
  broken-chosen x = elim (cases_lt c n) [
    | inr late ↦ absurd (free_s leaves n c late (first_arm (one-goes_on b leaves n c late) x))
    | inl below ↦ elim (seen_or_free leaves n b c) [
      | inl seen ↦ inl (c, omega arith, (refl, seen), first_arm (unsat-sat Condition (value_of leaves) n b c seen) x)
      | inr free ↦
          inr (
            c,
            omega arith,
            (refl, sat-unsat Condition (value_of leaves) n (negation b) c below free),
            second_arm
                free x,
          )
    ]
  ]

  chosen-kept : ComesTo (value_of leaves) n (chosen b (sequence s) (sequence t)) good c
      → ComesTo (value_of leaves) n arms good c
  chosen-kept x = elim (free_or_seen leaves n b c) [
    | inl free ↦
        let h = x.0 c (omega arith) (refl, free) in
        let ends = unsat-ends Condition (value_of leaves) n s c h.0 h.1 h.2 in (
          h.0,
          h.1,
          inl (
            c,
            omega arith,
            h.1,
            (refl, sat-unsat Condition (value_of leaves) n b c (omega (arith, ends, h.1)) free),
            h.2,
          ),
        )
    | inr seen ↦
        let h = x.1 c (omega arith) (refl, unsat-sat Condition (value_of leaves) n (negation b) c seen) in
        (h.0, h.1, inr (c, omega arith, h.1, (refl, seen), h.2))
  ]

  kept-chosen : ComesTo (value_of leaves) n arms good c
      → ComesTo (value_of leaves) n (chosen b (sequence s) (sequence t)) good c
  kept-chosen x = elim x.2 [
    | inl a ↦
        let at : a.0 ≡ c = omega (arith, a.3.0) in (
          λ e from match.
              let here : c ≡ e = omega (arith, match.0) in
              subst (λ m. ComesTo (value_of leaves) n (sequence s) good m) here
              (x.0, x.1, subst (λ m. Matches (unsat (value_of leaves) n) s m x.0) at a.4),
          λ e from match.
              let here : e ≡ c = omega (arith, match.0) in
              absurd (seen_not_free leaves n b c a.3.1 match.1),
        )
    | inr a ↦
        let at : a.0 ≡ c = omega (arith, a.3.0) in (
          λ e from match. absurd (free_not_seen leaves n b c match.1 a.3.1),
          λ e from match.
              let here : c ≡ e = omega (arith, match.0) in
              subst (λ m. ComesTo (value_of leaves) n (sequence t) good m) here
              (x.0, x.1, subst (λ m. Matches (unsat (value_of leaves) n) t m x.0) at a.4),
        )
  ]

pub chosen-sequences : (b : Condition) (s t : Seq Condition) → TakesTicks s → TakesTicks t → GoesOn s → GoesOn t
    → ComesToSame (chosen b (sequence s) (sequence t))
    (sequence (kernel.either (fuse (one b) s) (fuse (one (negation b)) t)))
chosen-sequences b s t some_s some_t free_s free_t leaves n failed c = (
  chosen-broken b s t some_s some_t free_s free_t leaves n c,
  broken-chosen b s t some_s some_t free_s free_t leaves n c,
)
chosen-sequences b s t some_s some_t free_s free_t leaves n good c = (
  chosen-kept b s t some_s some_t free_s free_t leaves n c,
  kept-chosen b s t some_s some_t free_s free_t leaves n c,
)

-- parts that come to the same
pub same-strong_later : (bound k : ℕ) (p q : Form Condition) → ComesToSameWithin bound p q
    → ComesToSameWithin bound (strong_later k p) (strong_later k q)
same-strong_later bound zero p q h = h
same-strong_later bound (suc k) p q h =
    same-negated bound (next (negated (strong_later k p))) (next (negated (strong_later k q)))
    (same-next bound (negated (strong_later k p)) (negated (strong_later k q))
    (same-negated bound (strong_later k p) (strong_later k q) (same-strong_later bound k p q h)))

pub same-some_later : (bound first more : ℕ) (p q : Form Condition) → ComesToSameWithin bound p q
    → ComesToSameWithin bound (some_later first more p) (some_later first more q)
same-some_later bound first zero p q h = same-strong_later bound first p q h
same-some_later bound first (suc more) p q h =
    same-either bound (strong_later first p) (some_later (first + 1) more p) (strong_later first q)
    (some_later (first + 1) more q) (same-strong_later bound first p q h)
    (same-some_later bound (first + 1) more p q h)

-- where b would have to be followed by 0, it must be false
zero-seen : (leaves : ℕ → ℕ → Bool) (n k : ℕ) → IsTrue (unsat (value_of leaves) n Zero k) → ⊥
zero-seen leaves n k seen = both_ways false refl (and_parts (nat_lt k n) false seen).1

zero-free : (leaves : ℕ → ℕ → Bool) (n k : ℕ) → IsTrue (sat (value_of leaves) n Zero k) → n ≤ k
zero-free leaves n k free = elim (or_cases (nat_le n k) false free) [
  | inl late ↦ leb-true n k late
  | inr never ↦ absurd (both_ways false refl never)
]

-- not s is: after each end of s, 0
pub negated-sequence : (s : Seq Condition)
    → ComesToSame (implied s (sequence (one Zero))) (negated (sequence s))
negated-sequence s leaves n failed c = (
  λ x. (x.0 + 1, omega (arith, x.1), x.2),
  λ x.
      let last : x.0 ≡ x.0 - 1 + 1 = omega (arith, x.1) in (
        x.0 - 1,
        omega (arith, x.1),
        subst (λ m. Matches (unsat (value_of leaves) n) s c m) last x.2,
        λ j some match.
            omega (
              arith,
              x.1,
              zero-free leaves n (x.0 - 1) match.1,
              unsat-ends Condition (value_of leaves) n s c x.0 x.1 x.2,
            ),
      ),
)
negated-sequence s leaves n good c = (
  λ x j some match.
      let last : j ≡ j - 1 + 1 = omega (arith, some) in
      zero-seen leaves n (j - 1)
      (x (j - 1) (omega (arith, some)) (subst (λ m. Matches (sat (value_of leaves) n) s c m) last match)).2.1,
  λ x e from match. absurd (x (e + 1) (omega (arith, from)) match),
)

pub implied-one-zero : (b : Condition)
    → ComesToSame (implied (one b) (sequence (one Zero))) (sequence (one (negation b)))
implied-one-zero b leaves n failed c = (
  λ x j some match. seen_not_free leaves n b c x.2.1 match.1,
  λ x. elim (seen_or_free leaves n b c) [
    | inl seen ↦ (
      c,
      omega arith,
      (refl, seen),
      λ j some match.
          x (c + 1) (omega arith) (
            refl,
            or_left (nat_le n c) (value_of leaves (negation b) c)
                (le-leb n c (zero-free leaves n c match.1)),
          ),
    )
    | inr free ↦ absurd (x (c + 1) (omega arith) (refl, free))
  ],
)
implied-one-zero b leaves n good c = (
  λ x. elim (free_or_seen leaves n b c) [
    | inl free ↦ absurd (zero-seen leaves n c (x c (omega arith) (refl, free)).2.1)
    | inr seen ↦ (c + 1, omega arith, (refl, seen))
  ],
  λ x e from match.
      let here : e ≡ c = omega (arith, match.0) in
      absurd (free_not_seen leaves n b c match.1 x.2.1),
)

-- ends of a repetition: of its first part, or of the others from the tick after that
module _ (r : Seq Condition) (some_r : TakesTicks r) (holds : Condition → ℕ → Bool) where
  chain-first : (count i j : ℕ) → Chain (Matches holds r) (suc count) i j
      → (m : ℕ) × Matches holds r i m × Chain (Matches holds r) count m j
  chain-first zero i j h =
      (j, subst (λ m. Matches holds r m j) (sym h.1) h.2, refl)
  chain-first (suc count) i j h =
      let f = chain-first count i h.0 h.1 in (f.0, f.1, (h.0, f.2, h.2))

  first-chain : (count i m j : ℕ) → Matches holds r i m → Chain (Matches holds r) count m j
      → Chain (Matches holds r) (suc count) i j
  first-chain zero i m j front rest = (i, refl, subst (λ k. Matches holds r i k) rest front)
  first-chain (suc count) i m j front rest = (rest.0, first-chain count i m rest.0 front rest.1, rest.2)

  chain-takes : (count i j : ℕ) → Chain (Matches holds r) count i j → i + count ≤ j
  chain-takes zero i j h = omega (arith, h)
  chain-takes (suc count) i j h =
      omega (arith, chain-takes count i h.0 h.1, takes r some_r holds h.0 j h.2)

  times-split : (least most c e : ℕ) → c ≤ e → Matches holds (times r least (suc most)) c (e + 1)
      → ((least ≤ 1) × Matches holds r c (e + 1))
      ⊎ ((m : ℕ) × (c ≤ m) × (m + 1 ≤ e) × Matches holds r c (m + 1)
      × Matches holds (times r (least - 1) most) (m + 1) (e + 1))
  times-split least most c e from h = go h.0 h.1 h.2 h.3
    where
      go : (count : ℕ) → least ≤ count → count ≤ suc most → Chain (Matches holds r) count c (e + 1)
          → ((least ≤ 1) × Matches holds r c (e + 1))
          ⊎ ((m : ℕ) × (c ≤ m) × (m + 1 ≤ e) × Matches holds r c (m + 1)
          × Matches holds (times r (least - 1) most) (m + 1) (e + 1))
      go zero low high chain = absurd (omega (arith, from, chain))
      go (suc zero) low high chain =
          inl (low, subst (λ m. Matches holds r m (e + 1)) (sym chain.1) chain.2)
      go (suc (suc count)) low high chain =
          let f = chain-first (suc count) c (e + 1) chain in
          let first = takes r some_r holds c f.0 f.1 in
          let rest = chain-takes (suc count) f.0 (e + 1) f.2 in
          let at : f.0 ≡ f.0 - 1 + 1 = omega (arith, first) in
          inr (
            f.0 - 1,
            omega (arith, first),
            omega (arith, first, rest),
            subst (λ m. Matches holds r c m) at f.1,
            subst (λ m. Matches holds (times r (least - 1) most) m (e + 1)) at
                (suc count, omega (arith, low), omega (arith, high), f.2),
          )

  times-one : (least most c e : ℕ) → least ≤ 1 → Matches holds r c (e + 1)
      → Matches holds (times r least (suc most)) c (e + 1)
  times-one least most c e low h = (1, low, omega arith, (c, refl, h))

  times-more : (least most c m e : ℕ) → Matches holds r c (m + 1)
      → Matches holds (times r (least - 1) most) (m + 1) (e + 1)
      → Matches holds (times r least (suc most)) c (e + 1)
  times-more least most c m e front rest =
      (suc rest.0, omega (arith, rest.1), omega (arith, rest.2), first-chain rest.0 c (m + 1) (e + 1) front rest.3)

pub implied-times-last : (r : Seq Condition) (least : ℕ) (p : Form Condition) → TakesTicks r → least ≤ 1
    → ComesToSame (implied (times r least 1) p) (implied r p)
implied-times-last r least p some_r low leaves n failed c = (
  λ x. elim (times-split r some_r (unsat (value_of leaves) n) least 0 c x.0 x.1 x.2) [
    | inl a ↦ (x.0, x.1, a.1, x.3)
    | inr a ↦ absurd (omega (
      arith,
      a.2,
      chain-takes r some_r (unsat (value_of leaves) n) a.4.0 (a.0 + 1) (x.0 + 1) a.4.3,
      a.4.2,
      no-chain (unsat (value_of leaves) n) a.4.0 (a.0 + 1) (x.0 + 1) a.4.2 a.4.3,
    ))
  ],
  λ x. (x.0, x.1, times-one r some_r (unsat (value_of leaves) n) least 0 c x.0 low x.2, x.3),
)
  where
    no-chain : (holds : Condition → ℕ → Bool) (count i j : ℕ) → count ≤ 0 → Chain (Matches holds r) count i j → i ≡ j
    no-chain holds zero i j le h = h
    no-chain holds (suc count) i j le h = absurd (omega (arith, le))
implied-times-last r least p some_r low leaves n good c = (
  λ x e from match. x e from (times-one r some_r (sat (value_of leaves) n) least 0 c e low match),
  λ x e from match. elim (times-split r some_r (sat (value_of leaves) n) least 0 c e from match) [
    | inl a ↦ x e from a.1
    | inr a ↦ absurd (omega (arith, a.2, no-chain (sat (value_of leaves) n) a.4.0 (a.0 + 1) (e + 1) a.4.2 a.4.3))
  ],
)
  where
    no-chain : (holds : Condition → ℕ → Bool) (count i j : ℕ) → count ≤ 0 → Chain (Matches holds r) count i j → i ≡ j
    no-chain holds zero i j le h = h
    no-chain holds (suc count) i j le h = absurd (omega (arith, le))

pub implied-times-more : (r : Seq Condition) (least most : ℕ) (p : Form Condition) → TakesTicks r → least ≤ 1
    → ComesToSame (implied (times r least (suc most)) p)
    (implied r (both p (next (implied (times r (least - 1) most) p))))
implied-times-more r least most p some_r low leaves n failed c = (
  λ x. elim (times-split r some_r (unsat (value_of leaves) n) least most c x.0 x.1 x.2) [
    | inl a ↦ (x.0, x.1, a.1, inl x.3)
    | inr a ↦ (a.0, a.1, a.3, inr (x.0, a.2, a.4, x.3))
  ],
  λ x. elim x.3 [
    | inl a ↦ (x.0, x.1, times-one r some_r (unsat (value_of leaves) n) least most c x.0 low x.2, a)
    | inr a ↦ (
      a.0,
      omega (arith, x.1, a.1),
      times-more r some_r (unsat (value_of leaves) n) least most c x.0 a.0 x.2 a.2,
      a.3,
    )
  ],
)
implied-times-more r least most p some_r low leaves n good c = (
  λ x m from front. (
    x m from (times-one r some_r (sat (value_of leaves) n) least most c m low front),
    λ e after rest.
        x e (omega (arith, from, after)) (times-more r some_r (sat (value_of leaves) n) least most c m e front rest),
  ),
  λ x e from match. elim (times-split r some_r (sat (value_of leaves) n) least most c e from match) [
    | inl a ↦ (x e from a.1).0
    | inr a ↦ (x a.0 a.1 a.3).1 e a.2 a.4
  ],
)

pub implied-times-later : (r : Seq Condition) (least most : ℕ) (p : Form Condition) → TakesTicks r → 2 ≤ least
    → ComesToSame (implied (times r least (suc most)) p)
    (implied r (next (implied (times r (least - 1) most) p)))
implied-times-later r least most p some_r low leaves n failed c = (
  λ x. elim (times-split r some_r (unsat (value_of leaves) n) least most c x.0 x.1 x.2) [
    | inl a ↦ absurd (omega (arith, low, a.0))
    | inr a ↦ (a.0, a.1, a.3, (x.0, a.2, a.4, x.3))
  ],
  λ x. (
    x.3.0,
    omega (arith, x.1, x.3.1),
    times-more r some_r (unsat (value_of leaves) n) least most c x.0 x.3.0 x.2 x.3.2,
    x.3.3,
  ),
)
implied-times-later r least most p some_r low leaves n good c = (
  λ x m from front e after rest.
      x e (omega (arith, from, after)) (times-more r some_r (sat (value_of leaves) n) least most c m e front rest),
  λ x e from match. elim (times-split r some_r (sat (value_of leaves) n) least most c e from match) [
    | inl a ↦ absurd (omega (arith, low, a.0))
    | inr a ↦ x a.0 a.1 a.3 e a.2 a.4
  ],
)

-- b and s is b ##0 s
pub sequence-guard : (b : Condition) (s : Seq Condition) → TakesTicks s
    → ComesToSame (both (sequence (one b)) (sequence s)) (sequence (fuse (one b) s))
sequence-guard b s some_s leaves n failed c = (
  λ x j some match.
      let at : match.0 ≡ c = omega (arith, match.3.0) in
      elim x [
        | inl a ↦ a (match.0 + 1) (omega (arith, match.1)) match.3
        | inr a ↦ a j some (subst (λ m. Matches (sat (value_of leaves) n) s m j) at match.4)
      ],
  λ x. elim (cases_Bool (sat (value_of leaves) n b c)) [
    | inl on ↦ inr (λ j some match. x j some (c, omega arith, some, (refl, on), match))
    | inr off ↦ inl (λ j some match. both_ways (sat (value_of leaves) n b c) off match.1)
  ],
)
sequence-guard b s some_s leaves n good c = (
  λ x. (x.1.0, x.1.1, (c, omega arith, x.1.1, (refl, x.0.2.1), x.1.2)),
  λ x.
      let at : x.2.0 ≡ c = omega (arith, x.2.3.0) in (
        (c + 1, omega arith, (refl, x.2.3.1)),
        (x.0, x.1, subst (λ m. Matches (unsat (value_of leaves) n) s m x.0) at x.2.4),
      ),
)

pub both-swap : (p q : Form Condition) → ComesToSame (both p q) (both q p)
both-swap p q leaves n failed c =
    (λ x. elim x [ inl a ↦ inr a | inr a ↦ inl a ], λ x. elim x [ inl a ↦ inr a | inr a ↦ inl a ])
both-swap p q leaves n good c = (λ x. (x.1, x.0), λ x. (x.1, x.0))

-- if (b) p else q, negated: one arm's negation at the tick of its guard
pub negated-chosen : (b : Condition) (p q : Form Condition)
    → ComesToSame (negated (chosen b p q))
    (either (both (sequence (one b)) (negated p)) (both (sequence (one (negation b))) (negated q)))
negated-chosen b p q leaves n failed c = (
  λ x. (arm b p leaves n c x.0, arm (negation b) q leaves n c x.1),
  λ x. (each b p leaves n c x.0, each (negation b) q leaves n c x.1),
)
  where
    arm : (b : Condition) (p : Form Condition) (leaves : ℕ → ℕ → Bool) (n c : ℕ)
        → ComesTo (value_of leaves) n (implied (one b) p) good c
        → ComesTo (value_of leaves) n (both (sequence (one b)) (negated p)) failed c
    arm b p leaves n c x = elim (cases_Bool (sat (value_of leaves) n b c)) [
      | inl on ↦ inr (x c (omega arith) (refl, on))
      | inr off ↦ inl (λ j some match. both_ways (sat (value_of leaves) n b c) off match.1)
    ]

    each : (b : Condition) (p : Form Condition) (leaves : ℕ → ℕ → Bool) (n c : ℕ)
        → ComesTo (value_of leaves) n (both (sequence (one b)) (negated p)) failed c
        → ComesTo (value_of leaves) n (implied (one b) p) good c
    each b p leaves n c x e from match =
        let here : c ≡ e = omega (arith, match.0) in
        elim x [
          | inl a ↦ absurd (a (e + 1) (omega (arith, from)) match)
          | inr a ↦ subst (λ m. ComesTo (value_of leaves) n p good m) here a
        ]
negated-chosen b p q leaves n good c = (
  λ x. elim x [ inl a ↦ inl (arm b p leaves n c a) | inr a ↦ inr (arm (negation b) q leaves n c a) ],
  λ x. elim x [ inl a ↦ inl (each b p leaves n c a) | inr a ↦ inr (each (negation b) q leaves n c a) ],
)
  where
    arm : (b : Condition) (p : Form Condition) (leaves : ℕ → ℕ → Bool) (n c : ℕ)
        → ComesTo (value_of leaves) n (implied (one b) p) failed c
        → ComesTo (value_of leaves) n (both (sequence (one b)) (negated p)) good c
    arm b p leaves n c x =
        let here : x.0 ≡ c = omega (arith, x.2.0) in
        ((c + 1, omega arith, (refl, x.2.1)), subst (λ m. ComesTo (value_of leaves) n p failed m) here x.3)

    each : (b : Condition) (p : Form Condition) (leaves : ℕ → ℕ → Bool) (n c : ℕ)
        → ComesTo (value_of leaves) n (both (sequence (one b)) (negated p)) good c
        → ComesTo (value_of leaves) n (implied (one b) p) failed c
    each b p leaves n c x = (c, omega arith, (refl, x.0.2.1), x.1)

-- if (b) p else q, for sequences: one arm at the tick of its guard
pub chosen-arms : (b : Condition) (s t : Seq Condition) → TakesTicks s → TakesTicks t → GoesOn s → GoesOn t
    → ComesToSame (chosen b (sequence s) (sequence t))
    (either (both (sequence (one b)) (sequence s)) (both (sequence (one (negation b))) (sequence t)))
chosen-arms b s t some_s some_t free_s free_t leaves n o c =
    let sequences = chosen-sequences b s t some_s some_t free_s free_t leaves n o c in
    let joined = sequence-either (fuse (one b) s) (fuse (one (negation b)) t) leaves n o c in
    let parts : ComesToSameWithin n (either (both (sequence (one b)) (sequence s))
    (both (sequence (one (negation b))) (sequence t)))
    (either (sequence (fuse (one b) s)) (sequence (fuse (one (negation b)) t))) =
    same-either n (both (sequence (one b)) (sequence s)) (both (sequence (one (negation b))) (sequence t))
    (sequence (fuse (one b) s)) (sequence (fuse (one (negation b)) t))
    (within n (both (sequence (one b)) (sequence s)) (sequence (fuse (one b) s)) (sequence-guard b s some_s))
    (within n (both (sequence (one (negation b))) (sequence t)) (sequence (fuse (one (negation b)) t))
    (sequence-guard (negation b) t some_t)) in
    let at = parts leaves n o c (omega arith) in
    (λ x. at.1 (joined.1 (sequences.0 x)), λ x. sequences.1 (joined.0 (at.0 x)))

-- parts that come to the same
pub same-chosen : (bound : ℕ) (b : Condition) (p q r s : Form Condition) → ComesToSameWithin bound p r
    → ComesToSameWithin bound q s → ComesToSameWithin bound (chosen b p q) (chosen b r s)
same-chosen bound b p q r s g h =
    same-both bound (implied (one b) p) (implied (one (negation b)) q) (implied (one b) r)
    (implied (one (negation b)) s) (same-implied bound (one b) p r g) (same-implied bound (one (negation b)) q s h)

pub same-until : (bound : ℕ) (p q r s : Form Condition) → ComesToSameWithin bound p r → ComesToSameWithin bound q s
    → ComesToSameWithin bound (until p q) (until r s)
same-until bound p q r s g h leaves n failed c le = (
  λ x. (
    x.0,
    x.1,
    (g leaves n failed x.0 (omega (arith, le, x.1))).0 x.2,
    λ k from to. (h leaves n failed k (omega (arith, le, from))).0 (x.3 k from to),
  ),
  λ x. (
    x.0,
    x.1,
    (g leaves n failed x.0 (omega (arith, le, x.1))).1 x.2,
    λ k from to. (h leaves n failed k (omega (arith, le, from))).1 (x.3 k from to),
  ),
)
same-until bound p q r s g h leaves n good c le = (
  λ x. elim x [
    | inl a ↦ inl (
      a.0,
      a.1,
      (h leaves n good a.0 (omega (arith, le, a.1))).0 a.2,
      λ k from below. (g leaves n good k (omega (arith, le, from))).0 (a.3 k from below),
    )
    | inr a ↦ inr (λ k from. (g leaves n good k (omega (arith, le, from))).0 (a k from))
  ],
  λ x. elim x [
    | inl a ↦ inl (
      a.0,
      a.1,
      (h leaves n good a.0 (omega (arith, le, a.1))).1 a.2,
      λ k from below. (g leaves n good k (omega (arith, le, from))).1 (a.3 k from below),
    )
    | inr a ↦ inr (λ k from. (g leaves n good k (omega (arith, le, from))).1 (a k from))
  ],
)
