-- How a search over ticks goes on by one tick.
use Rattle.std.proofs.lemmas.Bool.{or_cases, or_left, or_right, and_parts, and_from, false_from_ne_true, cases_eq}
use Rattle.std.proofs.lemmas.Bool.{cases_Bool, cases_lt, both_ways}
use Rattle.std.proofs.Common.{◌≡◌, inl, inr, subst, sym, ◌∙◌, ℕ, zero, suc, ◌+◌, ◌-◌, ◌<◌, ◌≤◌, Bool, true, false, ◌&&◌}
use Rattle.std.proofs.Common.{◌||◌, if◌then◌else◌, Option, Some, None, refl, ap, arith}
use Rattle.std.specs.Prelude.{IsTrue}
use Rattle.assertions.specs.Quantifiers.{some_of, each_of, some_in, each_in, or_later, first_of, first_in}
use Rattle.assertions.specs.Quantifiers.{first_true_of, first_true}

pub some_in-step : (i e : ℕ) (p : ℕ → Bool) → i < e → some_in i e p ≡ (p i || some_in (i + 1) e p)
unfolding some_in
some_in-step i e p l = let d : e - i ≡ suc (e - (i + 1)) = omega arith in ap (λ n. some_of i n p) d

pub some_in-end : (i e : ℕ) (p : ℕ → Bool) → e ≤ i → some_in i e p ≡ false
unfolding some_in
some_in-end i e p l = let d : e - i ≡ zero = omega arith in ap (λ n. some_of i n p) d

pub each_in-step : (i e : ℕ) (p : ℕ → Bool) → i < e → each_in i e p ≡ (p i && each_in (i + 1) e p)
unfolding each_in
each_in-step i e p l = let d : e - i ≡ suc (e - (i + 1)) = omega arith in ap (λ n. each_of i n p) d

pub each_in-end : (i e : ℕ) (p : ℕ → Bool) → e ≤ i → each_in i e p ≡ true
unfolding each_in
each_in-end i e p l = let d : e - i ≡ zero = omega arith in ap (λ n. each_of i n p) d

pub first_in-step : {A : Type 0} (i e : ℕ) (f : ℕ → Option A) → i < e
    → first_in i e f ≡ or_later i (f i) (first_in (i + 1) e f)
unfolding first_in
first_in-step i e f l = let d : e - i ≡ suc (e - (i + 1)) = omega arith in ap (λ n. first_of i n f) d

pub first_in-end : {A : Type 0} (i e : ℕ) (f : ℕ → Option A) → e ≤ i → first_in i e f ≡ None
unfolding first_in
first_in-end i e f l = let d : e - i ≡ zero = omega arith in ap (λ n. first_of i n f) d

pub first_true-step : (i e : ℕ) (p : ℕ → Bool) → i < e
    → first_true i e p ≡ (if p i then Some i else first_true (i + 1) e p)
unfolding first_true
first_true-step i e p l = let d : e - i ≡ suc (e - (i + 1)) = omega arith in ap (λ n. first_true_of i n p) d

pub first_true-end : (i e : ℕ) (p : ℕ → Bool) → e ≤ i → first_true i e p ≡ None
unfolding first_true
first_true-end i e p l = let d : e - i ≡ zero = omega arith in ap (λ n. first_true_of i n p) d

first_true_of-never : (i n : ℕ) → first_true_of i n (λ _. false) ≡ None
first_true_of-never i zero = refl
first_true_of-never i (suc n) = first_true_of-never (i + 1) n

pub first_true-never : (i e : ℕ) → first_true i e (λ _. false) ≡ None
unfolding first_true
first_true-never i e = first_true_of-never i (e - i)

pub ruleset searches = (
  some_in-step,
  some_in-end,
  each_in-step,
  each_in-end,
  first_in-step,
  first_in-end,
  first_true-step,
  first_true-end,
)

some_of-found : (i n : ℕ) (p : ℕ → Bool) → IsTrue (some_of i n p) → (k : ℕ) × (i ≤ k) × (k < i + n) × IsTrue (p k)
some_of-found i zero p h = cc
some_of-found i (suc n) p h =
    elim (or_cases (p i) (some_of (i + 1) n p) h) [
      | inl here ↦ (i, omega arith, omega arith, here)
      | inr there ↦ let r = some_of-found (i + 1) n p there in (r.0, omega (arith, r.1), omega (arith, r.2), r.3)
    ]

some_of-true : (i n : ℕ) (p : ℕ → Bool) (k : ℕ) → i ≤ k → k < i + n → IsTrue (p k) → IsTrue (some_of i n p)
some_of-true i zero p k from below h = absurd (omega arith)
some_of-true i (suc n) p k from below h =
    elim (cases_eq i k) [
      | inl e ↦ or_left (p i) (some_of (i + 1) n p) (rw e h)
      | inr ne ↦ or_right (p i) (some_of (i + 1) n p) (some_of-true (i + 1) n p k (omega arith) (omega arith) h)
    ]

-- a search that succeeds found a tick
pub some_in-found : (i e : ℕ) (p : ℕ → Bool) → IsTrue (some_in i e p) → (k : ℕ) × (i ≤ k) × (k < e) × IsTrue (p k)
unfolding some_in
some_in-found i e p h =
    let r = some_of-found i (e - i) p h in
    (r.0, r.1, omega (arith, r.1, r.2), r.3)

-- a tick that passes is found
pub some_in-true : (i e : ℕ) (p : ℕ → Bool) (k : ℕ) → i ≤ k → k < e → IsTrue (p k) → IsTrue (some_in i e p)
unfolding some_in
some_in-true i e p k from below h = some_of-true i (e - i) p k from (omega arith) h

each_of-at : (i n : ℕ) (p : ℕ → Bool) (k : ℕ) → IsTrue (each_of i n p) → i ≤ k → k < i + n → IsTrue (p k)
each_of-at i zero p k h from below = absurd (omega arith)
each_of-at i (suc n) p k h from below =
    let both = and_parts (p i) (each_of (i + 1) n p) h in
    elim (cases_eq i k) [
      | inl e ↦ rw e at both.0
      | inr ne ↦ each_of-at (i + 1) n p k both.1 (omega arith) (omega arith)
    ]

each_of-true : (i n : ℕ) (p : ℕ → Bool) → ((k : ℕ) → i ≤ k → k < i + n → IsTrue (p k)) → IsTrue (each_of i n p)
each_of-true i zero p h = refl
each_of-true i (suc n) p h =
    and_from (p i) (each_of (i + 1) n p) (h i (omega arith) (omega arith))
    (each_of-true (i + 1) n p (λ k from below. h k (omega arith) (omega arith)))

pub each_in-at : (i e : ℕ) (p : ℕ → Bool) (k : ℕ) → IsTrue (each_in i e p) → i ≤ k → k < e → IsTrue (p k)
unfolding each_in
each_in-at i e p k h from below = each_of-at i (e - i) p k h from (omega arith)

pub each_in-true : (i e : ℕ) (p : ℕ → Bool) → ((k : ℕ) → i ≤ k → k < e → IsTrue (p k)) → IsTrue (each_in i e p)
unfolding each_in
each_in-true i e p h = each_of-true i (e - i) p (λ k from below. h k from (omega arith))

-- what a search for the first finds
pub record IsFirst {A : Type 0} (i e : ℕ) (f : ℕ → Option A) (n : ℕ) (a : A) : Type 0 where
  pub from : i ≤ n
  pub below : n < e
  pub found : f n ≡ Some a
  pub least : (m : ℕ) → i ≤ m → m < n → f m ≡ None

first_of-found : {A : Type 0} (i n : ℕ) (f : ℕ → Option A) (k : ℕ) (a : A) → first_of i n f ≡ Some (k, a)
    → IsFirst i (i + n) f k a
first_of-found i zero f k a h = cc
first_of-found {A} i (suc n) f k a h = go (f i) refl h (first_of-found (i + 1) n f k a)
  where
    go : (o : Option A) → f i ≡ o → or_later i o (first_of (i + 1) n f) ≡ Some (k, a)
        → (first_of (i + 1) n f ≡ Some (k, a) → IsFirst (i + 1) (i + 1 + n) f k a) → IsFirst i (i + suc n) f k a
    go None e h later =
        let r = later h in
        record {
          from = omega (arith, r.from);
          below = omega (arith, r.below);
          found = r.found;
          least =
              λ m from below. elim (cases_eq i m)
              [ inl same ↦ rw (← same) e | inr other ↦ r.least m (omega arith) below ];
        }
    go (Some b) e h later =
        let pair : (i, b) ≡ (k, a) = cc in
        let n_is : i ≡ k = ap (λ (x : ℕ × A). x.0) pair in
        let a_is : b ≡ a = ap (λ (x : ℕ × A). x.1) pair in
        record {
          from = omega arith;
          below = omega arith;
          found = rw (← n_is, ← a_is) e;
          least = λ m from below. absurd (omega arith);
        }

pub first_in-found : {A : Type 0} (i e : ℕ) (f : ℕ → Option A) (k : ℕ) (a : A) → first_in i e f ≡ Some (k, a)
    → IsFirst i e f k a
unfolding first_in
first_in-found i e f k a h =
    let r = first_of-found i (e - i) f k a h in
    record { from = r.from; below = omega (arith, r.from, r.below); found = r.found; least = r.least }

first_of-none : {A : Type 0} (i n : ℕ) (f : ℕ → Option A) → first_of i n f ≡ None → (m : ℕ) → i ≤ m → m < i + n
    → f m ≡ None
first_of-none i zero f h m from below = absurd (omega arith)
first_of-none {A} i (suc n) f h m from below = go (f i) refl h (first_of-none (i + 1) n f)
  where
    go : (o : Option A) → f i ≡ o → or_later i o (first_of (i + 1) n f) ≡ None
        → (first_of (i + 1) n f ≡ None → (m : ℕ) → i + 1 ≤ m → m < i + 1 + n → f m ≡ None) → f m ≡ None
    go None e h later =
        elim (cases_eq i m) [ inl same ↦ rw (← same) e | inr other ↦ later h m (omega arith) (omega arith) ]
    go (Some b) e h later = cc

pub first_in-none : {A : Type 0} (i e : ℕ) (f : ℕ → Option A) → first_in i e f ≡ None → (m : ℕ) → i ≤ m → m < e
    → f m ≡ None
unfolding first_in
first_in-none i e f h m from below = first_of-none i (e - i) f h m from (omega arith)

-- what a search for the first tick that passes finds
pub record IsFirstTrue (i e : ℕ) (p : ℕ → Bool) (n : ℕ) : Type 0 where
  pub from : i ≤ n
  pub below : n < e
  pub found : p n ≡ true
  pub least : (m : ℕ) → i ≤ m → m < n → p m ≡ false

first_true_of-found : (i n : ℕ) (p : ℕ → Bool) (k : ℕ) → first_true_of i n p ≡ Some k → IsFirstTrue i (i + n) p k
first_true_of-found i zero p k h = cc
first_true_of-found i (suc n) p k h = go (p i) refl h (first_true_of-found (i + 1) n p k)
  where
    go : (b : Bool) → p i ≡ b → (if b then Some i else first_true_of (i + 1) n p) ≡ Some k
        → (first_true_of (i + 1) n p ≡ Some k → IsFirstTrue (i + 1) (i + 1 + n) p k) → IsFirstTrue i (i + suc n) p k
    go false e h later =
        let r = later h in
        record {
          from = omega (arith, r.from);
          below = omega (arith, r.below);
          found = r.found;
          least =
              λ m from below. elim (cases_eq i m)
              [ inl same ↦ rw (← same) e | inr other ↦ r.least m (omega arith) below ];
        }
    go true e h later =
        let n_is : i ≡ k = cc in
        record {
          from = omega arith;
          below = omega arith;
          found = rw (← n_is) e;
          least = λ m from below. absurd (omega arith);
        }

pub first_true-found : (i e : ℕ) (p : ℕ → Bool) (k : ℕ) → first_true i e p ≡ Some k → IsFirstTrue i e p k
unfolding first_true
first_true-found i e p k h =
    let r = first_true_of-found i (e - i) p k h in
    record { from = r.from; below = omega (arith, r.from, r.below); found = r.found; least = r.least }

first_true_of-none : (i n : ℕ) (p : ℕ → Bool) → first_true_of i n p ≡ None → (m : ℕ) → i ≤ m → m < i + n → p m ≡ false
first_true_of-none i zero p h m from below = absurd (omega arith)
first_true_of-none i (suc n) p h m from below = go (p i) refl h (first_true_of-none (i + 1) n p)
  where
    go : (b : Bool) → p i ≡ b → (if b then Some i else first_true_of (i + 1) n p) ≡ None
        → (first_true_of (i + 1) n p ≡ None → (m : ℕ) → i + 1 ≤ m → m < i + 1 + n → p m ≡ false) → p m ≡ false
    go false e h later =
        elim (cases_eq i m) [ inl same ↦ rw (← same) e | inr other ↦ later h m (omega arith) (omega arith) ]
    go true e h later = cc

pub first_true-none : (i e : ℕ) (p : ℕ → Bool) → first_true i e p ≡ None → (m : ℕ) → i ≤ m → m < e → p m ≡ false
unfolding first_true
first_true-none i e p h m from below = first_true_of-none i (e - i) p h m from (omega arith)

pub or-false : (a : Bool) → (a || false) ≡ (false || a)
or-false true = refl
or-false false = refl

or_regroup : (a b c : Bool) → (a || (b || c)) ≡ ((a || b) || c)
or_regroup true b c = refl
or_regroup false b c = refl

some_of-snoc : (i n : ℕ) (p : ℕ → Bool) → some_of i (suc n) p ≡ (some_of i n p || p (i + n))
some_of-snoc i zero p = let e : i ≡ i + 0 = omega arith in or-false (p i) ∙ ap p e
some_of-snoc i (suc n) p =
    let e : i + 1 + n ≡ i + suc n = omega arith in
    ap (λ b. p i || b) (some_of-snoc (i + 1) n p) ∙ or_regroup (p i) (some_of (i + 1) n p) (p (i + 1 + n))
    ∙ ap (λ k. (p i || some_of (i + 1) n p) || p k) e

-- a search that goes one tick further
pub some_in-snoc : (i e : ℕ) (p : ℕ → Bool) → i ≤ e → some_in i (e + 1) p ≡ (some_in i e p || p e)
unfolding some_in
some_in-snoc i e p h =
    let d : e + 1 - i ≡ suc (e - i) = omega arith in
    let f : i + (e - i) ≡ e = omega arith in
    ap (λ n. some_of i n p) d ∙ some_of-snoc i (e - i) p ∙ ap (λ k. some_of i (e - i) p || p k) f

-- two searches for the same
pub some_in-same : (i e : ℕ) (p q : ℕ → Bool) → ((k : ℕ) → i ≤ k → k < e → p k ≡ q k) → some_in i e p ≡ some_in i e q
some_in-same i e p q h = elim (cases_Bool (some_in i e q)) [
  | inl on ↦ (let f = some_in-found i e q on in some_in-true i e p f.0 f.1 f.2 (h f.0 f.1 f.2 ∙ f.3)) ∙ sym on
  | inr off ↦ false_from_ne_true _
      (λ t. let f = some_in-found i e p t in
      both_ways _ off (some_in-true i e q f.0 f.1 f.2 (sym (h f.0 f.1 f.2) ∙ f.3))) ∙ sym off
]

-- a search up to where nothing more passes
pub some_in-cut : (i a b : ℕ) (p : ℕ → Bool) → a ≤ b → ((k : ℕ) → a ≤ k → k < b → p k ≡ false)
    → some_in i b p ≡ some_in i a p
some_in-cut i a b p le h = elim (cases_Bool (some_in i a p)) [
  | inl on ↦ (let f = some_in-found i a p on in some_in-true i b p f.0 f.1 (omega (arith, f.2)) f.3) ∙ sym on
  | inr off ↦ false_from_ne_true _ (λ t.
      let f = some_in-found i b p t in
      elim (cases_lt f.0 a) [
        | inl lt ↦ both_ways _ off (some_in-true i a p f.0 f.1 lt f.3)
        | inr ge ↦ both_ways _ (h f.0 ge f.2) f.3
      ]) ∙ sym off
]

first_of-at : {A : Type 0} (i count : ℕ) (f : ℕ → Option A) (n : ℕ) (a : A) → i ≤ n → n < i + count → f n ≡ Some a
    → ((m : ℕ) → i ≤ m → m < n → f m ≡ None) → first_of i count f ≡ Some (n, a)
first_of-at i zero f n a from below found least = absurd (omega arith)
first_of-at {A} i (suc count) f n a from below found least = elim (cases_eq i n) [
  | inl same ↦ subst (λ k. or_later i (f i) (first_of (i + 1) count f) ≡ Some (k, a)) same
      (ap (λ o. or_later i o (first_of (i + 1) count f)) (subst (λ k. f k ≡ Some a) (sym same) found))
  | inr other ↦ ap (λ o. or_later i o (first_of (i + 1) count f)) (least i (omega arith) (omega arith))
      ∙ first_of-at (i + 1) count f n a (omega arith) (omega arith) found
      (λ m above under. least m (omega arith) under)
]

pub first_in-at : {A : Type 0} (i e : ℕ) (f : ℕ → Option A) (n : ℕ) (a : A) → i ≤ n → n < e → f n ≡ Some a
    → ((m : ℕ) → i ≤ m → m < n → f m ≡ None) → first_in i e f ≡ Some (n, a)
unfolding first_in
first_in-at i e f n a from below found least = first_of-at i (e - i) f n a from (omega arith) found least

first_of-never : {A : Type 0} (i count : ℕ) (f : ℕ → Option A) → ((m : ℕ) → i ≤ m → m < i + count → f m ≡ None)
    → first_of i count f ≡ None
first_of-never i zero f h = refl
first_of-never i (suc count) f h =
    ap (λ o. or_later i o (first_of (i + 1) count f)) (h i (omega arith) (omega arith))
    ∙ first_of-never (i + 1) count f (λ m from below. h m (omega arith) (omega arith))

pub first_in-never : {A : Type 0} (i e : ℕ) (f : ℕ → Option A) → ((m : ℕ) → i ≤ m → m < e → f m ≡ None)
    → first_in i e f ≡ None
unfolding first_in
first_in-never i e f h = first_of-never i (e - i) f (λ m from below. h m from (omega arith))

first_true_of-at : (i count : ℕ) (p : ℕ → Bool) (n : ℕ) → i ≤ n → n < i + count → p n ≡ true
    → ((m : ℕ) → i ≤ m → m < n → p m ≡ false) → first_true_of i count p ≡ Some n
first_true_of-at i zero p n from below found least = absurd (omega arith)
first_true_of-at i (suc count) p n from below found least = elim (cases_eq i n) [
  | inl same ↦ ap (λ b. if b then Some i else first_true_of (i + 1) count p) (subst (λ k. p k ≡ true) (sym same) found)
      ∙ ap Some same
  | inr other ↦ ap (λ b. if b then Some i else first_true_of (i + 1) count p) (least i (omega arith) (omega arith))
      ∙ first_true_of-at (i + 1) count p n (omega arith) (omega arith) found
      (λ m above under. least m (omega arith) under)
]

pub first_true-at : (i e : ℕ) (p : ℕ → Bool) (n : ℕ) → i ≤ n → n < e → p n ≡ true
    → ((m : ℕ) → i ≤ m → m < n → p m ≡ false) → first_true i e p ≡ Some n
unfolding first_true
first_true-at i e p n from below found least = first_true_of-at i (e - i) p n from (omega arith) found least

first_true_of-none_at : (i count : ℕ) (p : ℕ → Bool) → ((m : ℕ) → i ≤ m → m < i + count → p m ≡ false)
    → first_true_of i count p ≡ None
first_true_of-none_at i zero p h = refl
first_true_of-none_at i (suc count) p h =
    ap (λ b. if b then Some i else first_true_of (i + 1) count p) (h i (omega arith) (omega arith))
    ∙ first_true_of-none_at (i + 1) count p (λ m from below. h m (omega arith) (omega arith))

pub first_true-none_at : (i e : ℕ) (p : ℕ → Bool) → ((m : ℕ) → i ≤ m → m < e → p m ≡ false) → first_true i e p ≡ None
unfolding first_true
first_true-none_at i e p h = first_true_of-none_at i (e - i) p (λ m from below. h m from (omega arith))

pub none_from : {A : Type 0} (o : Option A) → ((a : A) → o ≡ Some a → ⊥) → o ≡ None
none_from None h = refl
none_from (Some a) h = absurd (h a refl)

and_true : (a : Bool) → (a && true) ≡ (true && a)
and_true true = refl
and_true false = refl

and_regroup : (a b c : Bool) → (a && (b && c)) ≡ ((a && b) && c)
and_regroup true b c = refl
and_regroup false b c = refl

each_of-snoc : (i n : ℕ) (p : ℕ → Bool) → each_of i (suc n) p ≡ (each_of i n p && p (i + n))
each_of-snoc i zero p = let e : i ≡ i + 0 = omega arith in and_true (p i) ∙ ap p e
each_of-snoc i (suc n) p =
    let e : i + 1 + n ≡ i + suc n = omega arith in
    ap (λ b. p i && b) (each_of-snoc (i + 1) n p) ∙ and_regroup (p i) (each_of (i + 1) n p) (p (i + 1 + n))
    ∙ ap (λ k. (p i && each_of (i + 1) n p) && p k) e

-- a test of each tick that goes one tick further
pub each_in-snoc : (i e : ℕ) (p : ℕ → Bool) → i ≤ e → each_in i (e + 1) p ≡ (each_in i e p && p e)
unfolding each_in
each_in-snoc i e p h =
    let d : e + 1 - i ≡ suc (e - i) = omega arith in
    let f : i + (e - i) ≡ e = omega arith in
    ap (λ n. each_of i n p) d ∙ each_of-snoc i (e - i) p ∙ ap (λ k. each_of i (e - i) p && p k) f
