-- Counts by clock and counts by start are the same.
use Rattle.std.proofs.Common.{◌≡◌, ◌∙◌, inl, inr, ℕ, zero, suc, ◌+◌, ◌<◌, ◌≤◌, Bool, false, if◌then◌else◌, List, []}
use Rattle.std.proofs.Common.{◌∷◌, ◌++◌, map, refl, ap, arith}
use Rattle.std.specs.Prelude.{◌==◌, count_by}
use Rattle.std.specs.List.{range_with_len, flat_map}
use Rattle.std.proofs.lemmas.Bool.{cases_Bool, cases_eq, eq-eqb, false_from_ne_true, eqb-true}
use Rattle.std.proofs.lemmas.List.{map-append}
use Rattle.std.proofs.lemmas.List.Sums.{sum_by-append, sum_by-cons}
use Rattle.signals.specs.declared.verdict.Verdict.{Verdict}
use Rattle.signals.specs.declared.verdict.Verdict.TheVariants.{Holds, Vacuous, Fails, Disabled, Open}
use Rattle.signals.specs.declared.verdict.Decided.{Decided}
use Rattle.machine_sections.specs.Standing.{select_ticks, is_open, falls_at}
use Rattle.compiler_laws.specs.LineLaws.{FallsBefore}

-- x for each of so many clocks that passes
abbrev hits : (ℕ → Bool) → ℕ → ℕ → ℕ → ℕ
hits f x a zero = 0
hits f x a (suc m) = (if f a then x else 0) + hits f x (a + 1) m

no-hit : (t x a m : ℕ) → t < a → hits (λ j. t == j) x a m ≡ 0
no-hit t x a zero past = refl
no-hit t x a (suc m) past =
    let off : (t == a) ≡ false = false_from_ne_true _ (λ h. let e = eqb-true t a h in absurd (omega arith)) in
    rw off (omega (arith, no-hit t x (a + 1) m (omega arith)))

one-hit : (t x a m : ℕ) → a ≤ t → t < a + m → hits (λ j. t == j) x a m ≡ x
one-hit t x a zero from below = absurd (omega arith)
one-hit t x a (suc m) from below =
    elim (cases_eq t a) [
      | inl same ↦ rw (eq-eqb t a same) (omega (arith, no-hit t x (a + 1) m (omega arith)))
      | inr other ↦
          let off : (t == a) ≡ false = false_from_ne_true _ (λ h. other (eqb-true t a h)) in
          rw off (omega (arith, one-hit t x (a + 1) m (omega arith) (omega arith)))
    ]

never-hit : (x a m : ℕ) → hits (λ j. false) x a m ≡ 0
never-hit x a zero = refl
never-hit x a (suc m) = omega (arith, never-hit x (a + 1) m)

abbrev no-decided : ℕ → List Decided
no-decided j = []

flat-none : (js : List ℕ) → flat_map no-decided js ≡ []
flat-none [] = refl
flat-none (j ∷ js) = flat-none js

module _ (q : Verdict → Bool) (v : ℕ → Verdict) where
  abbrev one : Verdict → ℕ
  one w = if q w then 1 else 0

  -- how many of these pass
  abbrev weigh : List Decided → ℕ
  weigh ds = count_by q (map (λ (d : Decided). d.verdict) ds)

  weigh-append : (xs ys : List Decided) → weigh (xs ++ ys) ≡ weigh xs + weigh ys
  weigh-append xs ys =
      ap (count_by q) (map-append (λ (d : Decided). d.verdict) xs ys)
      ∙ sum_by-append (λ w. if q w then 1 else 0) (map (λ (d : Decided). d.verdict) xs)
      (map (λ (d : Decided). d.verdict) ys)

  weigh-cons : (d : Decided) (ds : List Decided) → weigh (d ∷ ds) ≡ one d.verdict + weigh ds
  weigh-cons d ds = sum_by-cons (λ w. if q w then 1 else 0) d.verdict (map (λ (d : Decided). d.verdict) ds)

  abbrev fall : ℕ → ℕ → ℕ → List Decided
  fall i k j = select_ticks (λ c. falls_at j (v c)) (λ c. record { start = c; verdict = v c }) i k

  abbrev still : ℕ → ℕ → List Decided
  still i k = map (λ c. record { start = c; verdict = Open }) (select_ticks (λ c. is_open (v c)) (λ c. c) i k)

  fall-more : (j i k : ℕ) → weigh (fall i (suc k) j) ≡ (if falls_at j (v i) then one (v i) else 0)
      + weigh (fall (i + 1) k j)
  fall-more j i k =
      elim (cases_Bool (falls_at j (v i))) [
        | inl on ↦ rw on (weigh-cons (record { start = i; verdict = v i }) (fall (i + 1) k j))
        | inr off ↦ rw off (omega arith)
      ]

  still-more : (i k : ℕ) → weigh (still i (suc k)) ≡ (if is_open (v i) then one Open else 0) + weigh (still (i + 1) k)
  still-more i k =
      elim (cases_Bool (is_open (v i))) [
        | inl on ↦ rw on (weigh-cons (record { start = i; verdict = Open }) (still (i + 1) k))
        | inr off ↦ rw off (omega arith)
      ]

  clocks-more : (i k a m : ℕ) → weigh (flat_map (fall i (suc k)) (range_with_len a m))
      ≡ hits (λ j. falls_at j (v i)) (one (v i)) a m + weigh (flat_map (fall (i + 1) k) (range_with_len a m))
  clocks-more i k a zero = refl
  clocks-more i k a (suc m) =
      let here = fall-more a i k in
      let later = clocks-more i k (a + 1) m in
      let whole = weigh-append (fall i (suc k) a) (flat_map (fall i (suc k)) (range_with_len (a + 1) m)) in
      let rest = weigh-append (fall (i + 1) k a) (flat_map (fall (i + 1) k) (range_with_len (a + 1) m)) in
      omega (arith, here, later, whole, rest)

  -- each verdict falls at one of the clocks, or is open
  once : (n : ℕ) (w : Verdict) → FallsBefore n w
      → hits (λ j. falls_at j w) (one w) 0 n + (if is_open w then one Open else 0) ≡ one w
  once n Open h = omega (arith, never-hit (one Open) 0 n)
  once n (Holds t) h = omega (arith, one-hit t (one (Holds t)) 0 n (omega arith) (omega arith))
  once n (Vacuous t) h = omega (arith, one-hit t (one (Vacuous t)) 0 n (omega arith) (omega arith))
  once n (Fails t) h = omega (arith, one-hit t (one (Fails t)) 0 n (omega arith) (omega arith))
  once n (Disabled t) h = omega (arith, one-hit t (one (Disabled t)) 0 n (omega arith) (omega arith))

  by-start : (n i k : ℕ) → ((c : ℕ) → i ≤ c → c < i + k → FallsBefore n (v c))
      → weigh (flat_map (fall i k) (range_with_len 0 n)) + weigh (still i k) ≡ count_by q (map v (range_with_len i k))
  by-start n i zero falls = let none = ap weigh (flat-none (range_with_len 0 n)) in omega (arith, none)
  by-start n i (suc k) falls =
      let rest = by-start n (i + 1) k (λ c from below. falls c (omega arith) (omega arith)) in
      let clocks = clocks-more i k 0 n in
      let others = still-more i k in
      let here = once n (v i) (falls i (omega arith) (omega arith)) in
      let next = sum_by-cons (λ w. if q w then 1 else 0) (v i) (map v (range_with_len (i + 1) k)) in
      omega (arith, rest, clocks, others, here, next)

  pub tallied : (n : ℕ) → ((c : ℕ) → c < n → FallsBefore n (v c))
      → weigh (flat_map (fall 0 n) (range_with_len 0 n) ++ still 0 n) ≡ count_by q (map v (range_with_len 0 n))
  tallied n falls =
      weigh-append (flat_map (fall 0 n) (range_with_len 0 n)) (still 0 n)
      ∙ by-start n 0 n (λ c from below. falls c (omega arith))
