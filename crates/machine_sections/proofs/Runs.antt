-- Clocks, one after another, and the verdicts over a longer trace.
use Rattle.std.proofs.Common.{◌≡◌, ◌∙◌, inl, inr, ℕ, zero, suc, ◌+◌, ◌<◌, ◌≤◌, Bool, true, false, refl, sym, ap, subst}
use Rattle.std.proofs.Common.{arith}
use Rattle.std.proofs.lemmas.Bool.{cases_Bool, cases_lt, cases_order, eqb-true, false_from_ne_true}
use Rattle.signals.specs.declared.verdict.Verdict.{Verdict}
use Rattle.signals.specs.declared.verdict.Verdict.TheVariants as outcome
use Rattle.machine_checked.specs.Clocks.{Settled}
use Rattle.assertions.specs.declared.decision.Decision.{Decision}
use Rattle.assertions.specs.declared.decision.Decision.TheVariants.{Held, Vacuously, Failed}
use Rattle.assertions.specs.Segments.{Seq, Matches}
use Rattle.assertions.specs.Attempts.{Antecedent, every, IsFirstDecided, IsUndecided, IsFirstOff, IsNeverOff}
use Rattle.assertions.specs.Attempts.{IsVerdict, verdict}
use Rattle.assertions.proofs.Verdicts.{IsVerdict-verdict, IsVerdict-only}
use Rattle.machine_sections.specs.Automata.{AutomatonFollows}
use Rattle.machine_sections.specs.Monitors.{Monitor, monitor_clock, standing_after, decided_by_clock}
use Rattle.machine_sections.specs.Standing.{select_ticks, is_open, falls_at, standing_at, falling}
use Rattle.machine_sections.proofs.Selections.{select-same}
use Rattle.machine_sections.proofs.Verdicts.{AreVerdicts, IsRunning, is_open-runs}
use Rattle.machine_sections.proofs.Clocks.{clock-goes}

-- the verdicts that are computed are the ones that are stated
pub computed : (B : Type 0) (value : B → ℕ → Bool) (off : ℕ → Bool) (r : Antecedent B) (s : Seq B)
    → AreVerdicts value off r s (verdict value off r s)
computed B value off r s = record {
  stated = λ n c. IsVerdict-verdict B value off r s n c;
  only = λ n c v. IsVerdict-only B value off r s n c v;
}

module _ (B : Type 0) (value : B → ℕ → Bool) (off : ℕ → Bool) (r : Antecedent B) (s : Seq B) (v : ℕ → ℕ → Verdict)
    (are : AreVerdicts value off r s v) where
  first-later : (m end c n : ℕ) (d : Decision) → m ≤ end → IsFirstDecided value r s m c n d
      → IsFirstDecided value r s end c n d
  first-later m end c n d le first =
      record { above = first.above; within = omega (arith, first.within); decided = first.decided; least = first.least }

  one-first : (c last other t u : ℕ) → IsFirstOff off c last t → IsFirstOff off c other u → u ≡ t
  one-first c last other t u a b = elim (cases_order t u) [
    | inl same ↦ sym same
    | inr (inl less) ↦ absurd (b.least t a.from less a.passes)
    | inr (inr more) ↦ absurd (a.least u b.from more b.passes)
  ]

  -- disabled before anything decides it
  disabled-later : (m end c t : ℕ) → m ≤ end → IsUndecided value r s m c → IsFirstOff off c m t → (w : Verdict)
      → IsVerdict value off r s end c w → w ≡ outcome.Disabled t
  disabled-later m end c t le none first outcome.Open is =
      absurd (is.1 t first.from (omega (arith, first.below)) first.passes)
  disabled-later m end c t le none first (outcome.Holds u) is = absurd (decided-later u Held is.0 is.1)
    where
      decided-later : (u : ℕ) (d : Decision) → IsFirstDecided value r s end c (u + 1) d → IsNeverOff off c (u + 1) → ⊥
      decided-later u d by never = elim (cases_lt t (u + 1)) [
        | inl early ↦ never t first.from early first.passes
        | inr late ↦ none (u + 1) d by.above (omega (arith, first.below)) by.decided
      ]
  disabled-later m end c t le none first (outcome.Vacuous u) is = elim (cases_lt t (u + 1)) [
    | inl early ↦ absurd (is.1 t first.from early first.passes)
    | inr late ↦ absurd (none (u + 1) Vacuously is.0.above (omega (arith, first.below)) is.0.decided)
  ]
  disabled-later m end c t le none first (outcome.Fails u) is = elim (cases_lt t (u + 1)) [
    | inl early ↦ absurd (is.1 t first.from early first.passes)
    | inr late ↦ absurd (none (u + 1) Failed is.0.above (omega (arith, first.below)) is.0.decided)
  ]
  disabled-later m end c t le none first (outcome.Disabled u) (inl is) =
      ap outcome.Disabled (one-first c m is.0 t u first is.3)
  disabled-later m end c t le none first (outcome.Disabled u) (inr is) =
      ap outcome.Disabled (one-first c m end t u first is.1)

  as-stated : (n c : ℕ) (w : Verdict) → v n c ≡ w → IsVerdict value off r s n c w
  as-stated n c w e = subst (IsVerdict value off r s n c) e (are.stated n c)

  later : (m end c : ℕ) → m ≤ end → (w : Verdict) → v m c ≡ w → is_open w ≡ false → v end c ≡ w
  later m end c le outcome.Open e h = cc
  later m end c le (outcome.Holds t) e h =
      let is = as-stated m c (outcome.Holds t) e in
      are.only end c (outcome.Holds t) (first-later m end c (t + 1) Held le is.0, is.1)
  later m end c le (outcome.Vacuous t) e h =
      let is = as-stated m c (outcome.Vacuous t) e in
      are.only end c (outcome.Vacuous t) (first-later m end c (t + 1) Vacuously le is.0, is.1)
  later m end c le (outcome.Fails t) e h =
      let is = as-stated m c (outcome.Fails t) e in
      are.only end c (outcome.Fails t) (first-later m end c (t + 1) Failed le is.0, is.1)
  later m end c le (outcome.Disabled t) e h = elim (as-stated m c (outcome.Disabled t) e) [
    | inl is ↦ are.only end c (outcome.Disabled t) (inl (is.0, is.1, first-later m end c is.0 is.1 le is.2, is.3))
    | inr is ↦ disabled-later m end c t le is.0 is.1 (v end c) (are.stated end c)
  ]

  -- a verdict stays over a longer trace
  pub verdict-later : (m end c : ℕ) → m ≤ end → is_open (v m c) ≡ false → v end c ≡ v m c
  verdict-later m end c le h = later m end c le (v m c) refl h

  early : (n end c : ℕ) → c ≤ n → n < end → IsRunning B value off r s v are (n + 1) c → (w : Verdict) → v end c ≡ w
      → falls_at n w ≡ true → ⊥
  early n end c le below runs outcome.Open e h = cc
  early n end c le below runs (outcome.Holds t) e h =
      let is = as-stated end c (outcome.Holds t) e in
      runs.undecided (t + 1) Held is.0.above (omega (arith, eqb-true t n h)) is.0.decided
  early n end c le below runs (outcome.Vacuous t) e h =
      let is = as-stated end c (outcome.Vacuous t) e in
      runs.undecided (t + 1) Vacuously is.0.above (omega (arith, eqb-true t n h)) is.0.decided
  early n end c le below runs (outcome.Fails t) e h =
      let is = as-stated end c (outcome.Fails t) e in
      runs.undecided (t + 1) Failed is.0.above (omega (arith, eqb-true t n h)) is.0.decided
  early n end c le below runs (outcome.Disabled t) e h = elim (as-stated end c (outcome.Disabled t) e) [
    | inl is ↦ runs.never_off t is.3.from (omega (arith, eqb-true t n h)) is.3.passes
    | inr is ↦ runs.never_off t is.1.from (omega (arith, eqb-true t n h)) is.1.passes
  ]

  -- the verdicts that fall at a clock are those over the whole trace
  pub falling-later : (n end : ℕ) → n < end
      → falling v n ≡ select_ticks (λ c. falls_at n (v end c)) (λ c. record { start = c; verdict = v end c }) 0 (n + 1)
  falling-later n end below =
      select-same (λ c. falls_at n (v (n + 1) c)) (λ c. falls_at n (v end c))
      (λ c. record { start = c; verdict = v (n + 1) c }) (λ c. record { start = c; verdict = v end c }) 0 (n + 1)
      (λ c from low. elim (cases_Bool (is_open (v (n + 1) c))) [
        | inl on ↦ falls-open n (v (n + 1) c) on
            ∙ sym (false_from_ne_true _
            (λ h. early n end c (omega arith) below (is_open-runs B value off r s v are (n + 1) c on) (v end c) refl
            h))
        | inr closed ↦ ap (falls_at n) (sym (verdict-later (n + 1) end c (omega arith) closed))
      ])
      (λ c from low falls. ap (λ w. record { start = c; verdict = w })
      (sym (verdict-later (n + 1) end c (omega arith) (falls-closed n (v (n + 1) c) falls))))
    where
      falls-open : (n : ℕ) (w : Verdict) → is_open w ≡ true → falls_at n w ≡ false
      falls-open n outcome.Open h = refl
      falls-open n (outcome.Holds t) h = cc
      falls-open n (outcome.Vacuous t) h = cc
      falls-open n (outcome.Fails t) h = cc
      falls-open n (outcome.Disabled t) h = cc

      falls-closed : (n : ℕ) (w : Verdict) → falls_at n w ≡ true → is_open w ≡ false
      falls-closed n outcome.Open h = cc
      falls-closed n (outcome.Holds t) h = refl
      falls-closed n (outcome.Vacuous t) h = refl
      falls-closed n (outcome.Fails t) h = refl
      falls-closed n (outcome.Disabled t) h = refl

module _ (B : Type 0) (value : B → ℕ → Bool) (r : Antecedent B) (s : Seq B) (m : Monitor)
    (fr : AutomatonFollows value r m.antecedent)
    (fs : AutomatonFollows value (every s) m.consequent) (fills : (e : ℕ) → Matches value s e e → ⊥)
    (v : ℕ → ℕ → Verdict)
    (are : AreVerdicts value m.off r s v) where
  -- the state after any clocks stands for the meaning
  pub after-standing : (n : ℕ) → standing_after m n ≡ standing_at m v n
  after-standing zero = refl
  after-standing (suc n) =
      let e : n + 1 ≡ suc n = omega arith in
      ap (λ x. (monitor_clock m x).state) (after-standing n)
      ∙ ap (λ (o : Settled). o.state) (clock-goes B value r s m fr fs fills v are n)
      ∙ ap (standing_at m v) e

  pub decided_at-falling : (n : ℕ) → decided_by_clock m n ≡ falling v n
  decided_at-falling n =
      ap (λ x. (monitor_clock m x).decided) (after-standing n)
      ∙ ap (λ (o : Settled). o.decided) (clock-goes B value r s m fr fs fills v are n)
