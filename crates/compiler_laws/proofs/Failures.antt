-- Failures by clock, then start, in what is decided and in the verdicts.
use Rattle.std.proofs.Common.{◌≡◌, ◌∙◌, inl, inr, ℕ, zero, suc, ◌+◌, ◌-◌, ◌<◌, ◌≤◌, false, if◌then◌else◌, List, [], ◌∷◌}
use Rattle.std.proofs.Common.{◌++◌, map, refl, ap, arith}
use Rattle.std.specs.Prelude.{◌==◌, filter_map}
use Rattle.std.specs.List.{range_with_len, flat_map}
use Rattle.std.proofs.lemmas.Bool.{cases_Bool, eqb-true, false_from_ne_true}
use Rattle.std.proofs.lemmas.List.{append-nil}
use Rattle.std.proofs.lemmas.List.Elements.{filter_map-append}
use Rattle.signals.specs.declared.verdict.Verdict.{Verdict}
use Rattle.signals.specs.declared.verdict.Verdict.TheVariants.{Holds, Vacuous, Fails, Disabled, Open}
use Rattle.signals.specs.declared.verdict.Decided.{Decided}
use Rattle.report_lines.specs.declared.line.Failure.{Failure}
use Rattle.report_lines.specs.Tallies.{fails_at, failing_at, failing_in, clock_behind, end_of, failing_of}
use Rattle.machine_sections.specs.Standing.{select_ticks, falls_at}
use Rattle.machine_sections.specs.Laws.{fallen, all_fallen, open_starts}
use Rattle.machine_batches.specs.Lines.{failure_of}
use Rattle.compiler_laws.specs.LineLaws.{FallsBefore, still_open}

-- one attempt more that falls at a clock or doesn't
one-more : (w : Verdict) (j i : ℕ) (ds : List Decided) (fs : List Failure) → filter_map failure_of ds ≡ fs
    → filter_map failure_of (if falls_at j w then record { start = i; verdict = w } ∷ ds else ds)
    ≡ (if fails_at j w then record { start = i; clock = j } ∷ fs else fs)
one-more Open j i ds fs h = h
one-more (Holds t) j i ds fs h = elim (cases_Bool (t == j)) [ inl on ↦ rw on h | inr off ↦ rw off h ]
one-more (Vacuous t) j i ds fs h = elim (cases_Bool (t == j)) [ inl on ↦ rw on h | inr off ↦ rw off h ]
one-more (Disabled t) j i ds fs h = elim (cases_Bool (t == j)) [ inl on ↦ rw on h | inr off ↦ rw off h ]
one-more (Fails t) j i ds fs h =
    elim (cases_Bool (t == j)) [
      | inl on ↦ rw on (ap (λ x. record { start = i; clock = t } ∷ x) h
          ∙ ap (λ c. record { start = i; clock = c } ∷ fs) (eqb-true t j on))
      | inr off ↦ rw off h
    ]

module _ (v : ℕ → Verdict) where
  at-clock : (j i k : ℕ)
      → filter_map failure_of (select_ticks (λ c. falls_at j (v c)) (λ c. record { start = c; verdict = v c }) i k)
      ≡ failing_at j i (map v (range_with_len i k))
  unfolding failing_at
  at-clock j i zero = refl
  at-clock j i (suc k) =
      let next : i + 1 ≡ suc i = omega arith in
      one-more (v i) j i (select_ticks (λ c. falls_at j (v c)) (λ c. record { start = c; verdict = v c }) (i + 1) k)
      (failing_at j (suc i) (map v (range_with_len (i + 1) k)))
      (at-clock j (i + 1) k ∙ ap (λ s. failing_at j s (map v (range_with_len (i + 1) k))) next)

  at-clocks : (n a m : ℕ) → filter_map failure_of (flat_map (fallen v n) (range_with_len a m))
      ≡ failing_in a m (map v (range_with_len 0 n))
  unfolding failing_in
  at-clocks n a zero = refl
  at-clocks n a (suc m) =
      let next : a + 1 ≡ suc a = omega arith in
      filter_map-append failure_of (fallen v n a) (flat_map (fallen v n) (range_with_len (a + 1) m))
      ∙ ap (λ fs. fs ++ filter_map failure_of (flat_map (fallen v n) (range_with_len (a + 1) m))) (at-clock a 0 n)
      ∙ ap (λ fs. failing_at a 0 (map v (range_with_len 0 n)) ++ fs)
      (at-clocks n (a + 1) m ∙ ap (λ s. failing_in s m (map v (range_with_len 0 n))) next)

  ends-before : (n i k : ℕ) → ((c : ℕ) → i ≤ c → c < i + k → FallsBefore n (v c))
      → end_of (map v (range_with_len i k)) ≤ n
  unfolding end_of
  ends-before n i zero falls = omega arith
  ends-before n i (suc k) falls =
      let rest = ends-before n (i + 1) k (λ c from below. falls c (omega arith) (omega arith)) in
      let here = behind (v i) (falls i (omega arith) (omega arith)) in
      omega (arith, rest, here)
    where
      behind : (w : Verdict) → FallsBefore n w → clock_behind w ≤ n
      behind Open h = omega arith
      behind (Holds t) h = omega arith
      behind (Vacuous t) h = omega arith
      behind (Disabled t) h = omega arith
      behind (Fails t) h = omega arith

open-none : (cs : List ℕ) → filter_map failure_of (map (λ c. record { start = c; verdict = Open }) cs) ≡ []
open-none [] = refl
open-none (c ∷ cs) = open-none cs

-- after the end nothing fails
never-fails : (j : ℕ) (w : Verdict) → clock_behind w ≤ j → fails_at j w ≡ false
never-fails j Open h = refl
never-fails j (Holds t) h = refl
never-fails j (Vacuous t) h = refl
never-fails j (Disabled t) h = refl
never-fails j (Fails t) h = false_from_ne_true _ (λ same. let e = eqb-true t j same in absurd (omega arith))

quiet-at : (j start : ℕ) (vs : List Verdict) → end_of vs ≤ j → failing_at j start vs ≡ []
unfolding failing_at end_of
quiet-at j start [] h = refl
quiet-at j start (w ∷ vs) h = rw (never-fails j w (omega arith)) (quiet-at j (suc start) vs (omega arith))

quiet-in : (a m : ℕ) (vs : List Verdict) → end_of vs ≤ a → failing_in a m vs ≡ []
unfolding failing_in
quiet-in a zero vs h = refl
quiet-in a (suc m) vs h =
    ap (λ fs. fs ++ failing_in (suc a) m vs) (quiet-at a 0 vs h) ∙ quiet-in (suc a) m vs (omega arith)

in-more : (a m more : ℕ) (vs : List Verdict) → end_of vs ≤ a + m → failing_in a (m + more) vs ≡ failing_in a m vs
unfolding failing_in
in-more a zero more vs h =
    let e : zero + more ≡ more = omega arith in ap (λ k. failing_in a k vs) e ∙ quiet-in a more vs (omega arith)
in-more a (suc m) more vs h =
    let e : suc m + more ≡ suc (m + more) = omega arith in
    ap (λ k. failing_in a k vs) e ∙ ap (λ fs. failing_at a 0 vs ++ fs) (in-more (suc a) m more vs (omega arith))

pub failures : (v : ℕ → Verdict) (n : ℕ) → ((c : ℕ) → c < n → FallsBefore n (v c))
    → filter_map failure_of (all_fallen v n ++ still_open v n) ≡ failing_of (map v (range_with_len 0 n))
failures v n falls =
    let vs = map v (range_with_len 0 n) in
    let ends = ends-before v n 0 n (λ c from below. falls c (omega arith)) in
    let whole : n ≡ end_of vs + (n - end_of vs) = omega arith in
    filter_map-append failure_of (all_fallen v n) (still_open v n)
    ∙ ap (λ fs. filter_map failure_of (all_fallen v n) ++ fs) (open-none (open_starts v n))
    ∙ append-nil (filter_map failure_of (all_fallen v n))
    ∙ at-clocks v n 0 n
    ∙ ap (λ k. failing_in 0 k vs) whole
    ∙ in-more 0 (end_of vs) (n - end_of vs) vs (omega arith)
