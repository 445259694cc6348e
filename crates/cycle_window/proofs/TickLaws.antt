-- The ticks are the rising edges, in order.
use Rattle.std.proofs.Common.{
  ◌≡◌,
  ℕ,
  zero,
  suc,
  ◌+◌,
  ◌-◌,
  ◌<◌,
  ◌≤◌,
  Bool,
  true,
  false,
  eqb,
  ◌&&◌,
  List,
  [],
  ◌∷◌,
  ◌++◌,
  length,
  get_or,
  ◌⊎◌,
  refl,
  sym,
  ap,
  ◌∙◌,
  arith,
  inl,
  inr,
  subst,
}
use Rattle.std.specs.Prelude.{Contains, slice_index}
use Rattle.std.specs.List.Sorted.{IsStrictlyIncreasing}
use Rattle.std.proofs.lemmas.Bool.{eq-eqb, cases_lt}
use Rattle.std.proofs.lemmas.Bool.Decides.{eqb_tells}
use Rattle.std.proofs.lemmas.List.{get_or_append_left, get_or_default, length-append}
use Rattle.std.proofs.Math.Seq.{get_or-append_seam}
use Rattle.std.proofs.lemmas.List.Elements.{
  Contains-append_left,
  Contains-append_right,
  Contains-append_cases,
}
use Rattle.vcd_reader.specs.Values.{Moment}
use Rattle.vcd_reader.specs.Dump.{Contents}
use Rattle.cycle_window.specs.Ticks.{IsTick, is_tick, ticks_below, ticks_of, AreTicks}

tells : (b : Bool) → (b ≡ true) ⊎ (b ≡ false)
tells true = inl refl
tells false = inr refl

three : (a b c : Bool) → (a && b && c) ≡ true → (a ≡ true) × (b ≡ true) × (c ≡ true)
three true true true e = (refl, refl, refl)
three true true false e = absurd cc
three true false c e = absurd cc
three false b c e = absurd cc

eqb-eq : (m n : ℕ) → eqb m n ≡ true → m ≡ n
eqb-eq m n e = elim (eqb_tells m n) [ inl p ↦ p.1 | inr p ↦ absurd (let f = p.0 in cc) ]

-- the test and the definition
pub tick-is : (steps : List Moment) (code k : ℕ) → k < length steps → is_tick steps code k ≡ true
    → IsTick steps code k
unfolding is_tick
tick-is steps code k lt e =
    let t = three _ _ _ e in
    record { inside = lt; known = t.0; low = eqb-eq _ _ t.1; high = eqb-eq _ _ t.2 }

pub is-tick : (steps : List Moment) (code k : ℕ) → IsTick steps code k → is_tick steps code k ≡ true
unfolding is_tick
is-tick steps code k t =
    let a = t.known in let b = eq-eqb _ _ t.low in let c = eq-eqb _ _ t.high in rw (a, b, c) refl

pub ticks-yes : (steps : List Moment) (code n : ℕ) → is_tick steps code n ≡ true
    → ticks_below steps code (suc n) ≡ ticks_below steps code n ++ n ∷ []
unfolding ticks_below
ticks-yes steps code n e = rw e refl

pub ticks-no : (steps : List Moment) (code n : ℕ) → is_tick steps code n ≡ false
    → ticks_below steps code (suc n) ≡ ticks_below steps code n
unfolding ticks_below
ticks-no steps code n e = rw e refl

one : (n k : ℕ) → Contains (n ∷ []) k → n ≡ k
one n k (zero, lt, e) = e
one n k (suc i, lt, e) = absurd (omega arith)

-- what is among them
below-in : (steps : List Moment) (code n k : ℕ) → Contains (ticks_below steps code n) k
    → (k < n) × (is_tick steps code k ≡ true)
unfolding ticks_below
below-in steps code zero k (i, lt, e) = absurd (omega arith)
below-in steps code (suc n) k h = elim (tells (is_tick steps code n)) [
  | inl t ↦
      elim (Contains-append_cases (ticks_below steps code n) (n ∷ []) k
      (subst (λ (xs : List ℕ). Contains xs k) (ticks-yes steps code n t) h)) [
        | inl before ↦ let r = below-in steps code n k before in (omega (arith, r.0), r.1)
        | inr last ↦ let e = one n k last in (omega arith, ap (is_tick steps code) (sym e) ∙ t)
      ]
  | inr f ↦
      let r =
      below-in steps code n k
      (subst (λ (xs : List ℕ). Contains xs k) (ticks-no steps code n f) h) in
      (omega (arith, r.0), r.1)
]

in-below : (steps : List Moment) (code n k : ℕ) → k < n → is_tick steps code k ≡ true
    → Contains (ticks_below steps code n) k
unfolding ticks_below
in-below steps code zero k lt t = absurd (omega arith)
in-below steps code (suc n) k lt t = elim (cases_lt k n) [
  | inl less ↦ elim (tells (is_tick steps code n)) [
    | inl y ↦
        subst (λ (xs : List ℕ). Contains xs k) (sym (ticks-yes steps code n y))
        (Contains-append_left (ticks_below steps code n) (n ∷ []) k
        (in-below steps code n k less t))
    | inr f ↦
        subst (λ (xs : List ℕ). Contains xs k) (sym (ticks-no steps code n f))
        (in-below steps code n k less t)
  ]
  | inr more ↦
      let e : k ≡ n = omega arith in
      let y : is_tick steps code n ≡ true = ap (is_tick steps code) (sym e) ∙ t in
      subst (λ (xs : List ℕ). Contains xs k) (sym (ticks-yes steps code n y))
      (Contains-append_right (ticks_below steps code n) (n ∷ []) k (0, omega arith, sym e))
]

-- they rise
rise-more : (xs : List ℕ) (n : ℕ) → IsStrictlyIncreasing xs
    → ((i : ℕ) → i < length xs → slice_index xs i < n) → IsStrictlyIncreasing (xs ++ n ∷ [])
rise-more xs n rise below k lt =
    let long : length (xs ++ n ∷ []) ≡ length xs + 1 = length-append xs (n ∷ []) in
    let here : k < length xs = omega arith in
    let a : get_or (xs ++ n ∷ []) k 0 ≡ get_or xs k 0 = get_or_append_left xs (n ∷ []) 0 k here in
    elim (cases_lt (k + 1) (length xs)) [
      | inl less ↦
          let b : get_or (xs ++ n ∷ []) (k + 1) 0 ≡ get_or xs (k + 1) 0 =
          get_or_append_left xs (n ∷ []) 0 (k + 1) less in rw (a, b) (rise k less)
      | inr more ↦
          let e : k + 1 ≡ length xs = omega arith in
          let b : get_or (xs ++ n ∷ []) (k + 1) 0 ≡ n =
          ap (λ (i : ℕ). get_or (xs ++ n ∷ []) i 0) e ∙ get_or-append_seam xs n [] 0 in
          rw (a, b) (below k here)
    ]

pub below-at : (steps : List Moment) (code n i : ℕ) → i < length (ticks_below steps code n)
    → (get_or (ticks_below steps code n) i 0 < n)
    × (is_tick steps code (get_or (ticks_below steps code n) i 0) ≡ true)
below-at steps code n i lt =
    below-in steps code n (get_or (ticks_below steps code n) i 0) (
      i,
      lt,
      get_or_default (ticks_below steps code n) i (get_or (ticks_below steps code n) i 0)
          0 lt,
    )

pub ticks-rise : (steps : List Moment) (code n : ℕ)
    → IsStrictlyIncreasing (ticks_below steps code n)
unfolding ticks_below
ticks-rise steps code zero = λ k lt. absurd (omega arith)
ticks-rise steps code (suc n) = elim (tells (is_tick steps code n)) [
  | inl y ↦
      subst IsStrictlyIncreasing (sym (ticks-yes steps code n y))
      (rise-more (ticks_below steps code n) n (ticks-rise steps code n)
      (λ i lt. (below-at steps code n i lt).0))
  | inr f ↦ subst IsStrictlyIncreasing (sym (ticks-no steps code n f)) (ticks-rise steps code n)
]

pub are-ticks : (c : Contents) (code : ℕ) → AreTicks c code
unfolding ticks_of
are-ticks c code = record {
  each = λ k. (
    (λ h. let r = below-in c.steps code (length c.steps) k h in tick-is c.steps code k r.0 r.1),
    (λ t. in-below c.steps code (length c.steps) k t.inside (is-tick c.steps code k t)),
  );
  rise = ticks-rise c.steps code (length c.steps);
}

rise-far : (xs : List ℕ) → IsStrictlyIncreasing xs → (i k : ℕ) → i + k < length xs
    → slice_index xs i ≤ slice_index xs (i + k)
rise-far xs rise i zero lt = let e : i + 0 ≡ i = omega arith in rw e (omega arith)
rise-far xs rise i (suc k) lt =
    let e : i + suc k ≡ i + k + 1 = omega arith in let h = rise-far xs rise i k (omega arith) in
    let s = rise (i + k) (omega arith) in rw e (omega (arith, h, s))

-- later ticks are not before earlier ones, and each is a step
pub tick-order : (c : Contents) (code : ℕ) (ticks : List ℕ) → ticks ≡ ticks_of c code → (i n : ℕ)
    → i ≤ n → n < length ticks → get_or ticks i 0 ≤ get_or ticks n 0
unfolding ticks_of
tick-order c code ticks e i n le lt =
    let sum : i + (n - i) ≡ n = omega arith in
    let rise : IsStrictlyIncreasing ticks =
    subst IsStrictlyIncreasing (sym e) (ticks-rise c.steps code (length c.steps)) in
    let far : get_or ticks i 0 ≤ get_or ticks (i + (n - i)) 0 =
    rise-far ticks rise i (n - i) (omega arith) in
    rw sum at far

pub tick-inside : (c : Contents) (code : ℕ) (ticks : List ℕ) → ticks ≡ ticks_of c code → (n : ℕ)
    → n < length ticks → get_or ticks n 0 < length c.steps
unfolding ticks_of
tick-inside c code ticks e n lt = rw e (below-at c.steps code (length c.steps) n (rw (← e) lt)).0
