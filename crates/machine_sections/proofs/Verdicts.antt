-- How a verdict comes by one tick more.
use Rattle.std.proofs.Common.{◌≡◌, ◌∙◌, ◌⊎◌, inl, inr, ℕ, ◌+◌, ◌≤◌, Bool, true, false, not, ◌&&◌, refl, sym, ap, subst}
use Rattle.std.proofs.Common.{arith}
use Rattle.std.specs.Prelude.{IsTrue}
use Rattle.std.proofs.lemmas.Bool.{both_ways, cases_Bool, cases_lt, cases_eq, eqb-true, eq-eqb, false_from_ne_true}
use Rattle.signals.specs.declared.verdict.Verdict.{Verdict}
use Rattle.signals.specs.declared.verdict.Verdict.TheVariants as outcome
use Rattle.assertions.specs.declared.decision.Decision.{Decision}
use Rattle.assertions.specs.declared.decision.Decision.TheVariants.{Held, Vacuously, Failed}
use Rattle.assertions.specs.Segments.{Seq}
use Rattle.assertions.specs.Attempts.{Antecedent, IsDecided, IsFirstDecided, IsUndecided, IsFirstOff}
use Rattle.assertions.specs.Attempts.{IsNeverOff, IsVerdict, decided_at}
use Rattle.machine_sections.specs.Standing.{is_open, falls_at}

-- each verdict is the one that is stated, and there is no other
pub record AreVerdicts {B : Type 0} (value : B → ℕ → Bool) (off : ℕ → Bool) (r : Antecedent B) (s : Seq B)
    (verdict : ℕ → ℕ → Verdict) :
    Type 0 where
  pub stated : (n c : ℕ) → IsVerdict value off r s n c (verdict n c)
  pub only : (n c : ℕ) (v : Verdict) → IsVerdict value off r s n c v → verdict n c ≡ v

module _ (B : Type 0) (value : B → ℕ → Bool) (off : ℕ → Bool) (r : Antecedent B) (s : Seq B) (verdict : ℕ → ℕ → Verdict)
    (are : AreVerdicts value off r s verdict) where
  -- neither decided nor disabled so far
  pub record IsRunning (n c : ℕ) : Type 0 where
    pub undecided : IsUndecided value r s n c
    pub never_off : IsNeverOff off c n

  stated-as : (n c : ℕ) (v : Verdict) → verdict n c ≡ v → IsVerdict value off r s n c v
  stated-as n c v e = subst (IsVerdict value off r s n c) e (are.stated n c)

  open-runs : (n c : ℕ) (v : Verdict) → verdict n c ≡ v → is_open v ≡ true → IsRunning n c
  open-runs n c outcome.Open e h =
      let is = stated-as n c outcome.Open e in record { undecided = is.0; never_off = is.1 }
  open-runs n c (outcome.Holds t) e h = cc
  open-runs n c (outcome.Vacuous t) e h = cc
  open-runs n c (outcome.Fails t) e h = cc
  open-runs n c (outcome.Disabled t) e h = cc

  pub is_open-runs : (n c : ℕ) → is_open (verdict n c) ≡ true → IsRunning n c
  is_open-runs n c h = open-runs n c (verdict n c) refl h

  pub runs-Open : (n c : ℕ) → IsRunning n c → verdict n c ≡ outcome.Open
  runs-Open n c runs = are.only n c outcome.Open (runs.undecided, runs.never_off)

  pub runs-is_open : (n c : ℕ) → IsRunning n c → is_open (verdict n c) ≡ true
  runs-is_open n c runs = ap is_open (runs-Open n c runs)

  -- an attempt that begins runs
  pub begins : (n : ℕ) → IsRunning n n
  begins n = record { undecided = λ m d above within is. omega arith; never_off = λ k from below is. omega arith }

  pub runs-before : (m n c : ℕ) → m ≤ n → IsRunning n c → IsRunning m c
  runs-before m n c le runs = record {
    undecided = λ k d above within is. runs.undecided k d above (omega arith) is;
    never_off = λ k from below is. runs.never_off k from (omega arith) is;
  }

  module _ (n c : ℕ) (le : c ≤ n) where
    -- decided at this clock
    pub decides : (d : Decision) → IsRunning n c → off n ≡ false → IsDecided value r s (n + 1) c d
        → verdict (n + 1) c ≡ decided_at d n
    decides d runs on is = go d (record {
      above = omega arith;
      within = omega arith;
      decided = is;
      least = λ m other above below was. runs.undecided m other above (omega arith) was;
    })
      where
        never : IsNeverOff off c (n + 1)
        never k from below is =
            elim (cases_eq k n) [
              | inl same ↦ both_ways (off n) on (ap off (sym same) ∙ is)
              | inr other ↦ runs.never_off k from (omega arith) is
            ]

        go : (d : Decision) → IsFirstDecided value r s (n + 1) c (n + 1) d → verdict (n + 1) c ≡ decided_at d n
        go Held first = are.only (n + 1) c (outcome.Holds n) (first, never)
        go Vacuously first = are.only (n + 1) c (outcome.Vacuous n) (first, never)
        go Failed first = are.only (n + 1) c (outcome.Fails n) (first, never)

    -- or not
    pub goes_on : IsRunning n c → off n ≡ false → ((d : Decision) → IsDecided value r s (n + 1) c d → ⊥)
        → IsRunning (n + 1) c
    goes_on runs on none = record {
      undecided = λ m d above within is. elim (cases_eq m (n + 1)) [
        | inl same ↦ none d (subst (λ k. IsDecided value r s k c d) same is)
        | inr other ↦ runs.undecided m d above (omega arith) is
      ];
      never_off = λ k from below is. elim (cases_eq k n) [
        | inl same ↦ both_ways (off n) on (ap off (sym same) ∙ is)
        | inr other ↦ runs.never_off k from (omega arith) is
      ];
    }

    first-now : (t : ℕ) (d : Decision) → IsRunning n c → IsFirstDecided value r s (n + 1) c (t + 1) d → t ≡ n
    first-now t d runs first =
        elim (cases_lt t n) [
          | inl early ↦ absurd (runs.undecided (t + 1) d first.above (omega arith) first.decided)
          | inr late ↦ omega (arith, first.within)
        ]

    off-now : (t last : ℕ) → IsRunning n c → last ≤ n + 1 → IsFirstOff off c last t → t ≡ n
    off-now t last runs le first =
        elim (cases_lt t n) [
          | inl early ↦ absurd (runs.never_off t first.from early first.passes)
          | inr late ↦ omega (arith, first.below)
        ]

    -- what was open and isn't falls at this clock
    open-falls : (v : Verdict) → verdict (n + 1) c ≡ v → IsRunning n c → falls_at n v ≡ not (is_open v)
    open-falls outcome.Open e runs = refl
    open-falls (outcome.Holds t) e runs =
        let is = stated-as (n + 1) c (outcome.Holds t) e in eq-eqb t n (first-now t Held runs is.0)
    open-falls (outcome.Vacuous t) e runs =
        let is = stated-as (n + 1) c (outcome.Vacuous t) e in eq-eqb t n (first-now t Vacuously runs is.0)
    open-falls (outcome.Fails t) e runs =
        let is = stated-as (n + 1) c (outcome.Fails t) e in eq-eqb t n (first-now t Failed runs is.0)
    open-falls (outcome.Disabled t) e runs =
        elim (stated-as (n + 1) c (outcome.Disabled t) e) [
          | inl is ↦ eq-eqb t n (off-now t is.0 runs (is.2.within) is.3)
          | inr is ↦ eq-eqb t n (off-now t (n + 1) runs (omega arith) is.1)
        ]

    first-runs : (t : ℕ) (d : Decision) → t ≡ n → IsFirstDecided value r s (n + 1) c (t + 1) d
        → IsNeverOff off c (t + 1) → IsRunning n c
    first-runs t d e first never = record {
      undecided = λ m other above within is. first.least m other above (omega arith) is;
      never_off = λ k from below is. never k from (omega arith) is;
    }

    off-runs : (t : ℕ) → t ≡ n
        → ((m : ℕ) × (d : Decision) × IsFirstDecided value r s (n + 1) c m d × IsFirstOff off c m t)
        ⊎ (IsUndecided value r s (n + 1) c × IsFirstOff off c (n + 1) t) → IsRunning n c
    off-runs t e (inl is) = record {
      undecided = λ m other above within was. is.2.least m other above (omega (arith, is.3.below)) was;
      never_off = λ k from below was. is.3.least k from (omega arith) was;
    }
    off-runs t e (inr is) = record {
      undecided = λ m other above within was. is.0 m other above (omega arith) was;
      never_off = λ k from below was. is.1.least k from (omega arith) was;
    }

    -- what falls at this clock was open
    falls-runs : (v : Verdict) → verdict (n + 1) c ≡ v → falls_at n v ≡ true → IsRunning n c
    falls-runs outcome.Open e h = cc
    falls-runs (outcome.Holds t) e h =
        let is = stated-as (n + 1) c (outcome.Holds t) e in first-runs t Held (eqb-true t n h) is.0 is.1
    falls-runs (outcome.Vacuous t) e h =
        let is = stated-as (n + 1) c (outcome.Vacuous t) e in first-runs t Vacuously (eqb-true t n h) is.0 is.1
    falls-runs (outcome.Fails t) e h =
        let is = stated-as (n + 1) c (outcome.Fails t) e in first-runs t Failed (eqb-true t n h) is.0 is.1
    falls-runs (outcome.Disabled t) e h = off-runs t (eqb-true t n h) (stated-as (n + 1) c (outcome.Disabled t) e)

    pub falls-was_open : falls_at n (verdict (n + 1) c) ≡ (is_open (verdict n c) && not (is_open (verdict (n + 1) c)))
    falls-was_open =
        elim (cases_Bool (is_open (verdict n c))) [
          | inl on ↦ rw on (open-falls (verdict (n + 1) c) refl (is_open-runs n c on))
          | inr closed ↦
              rw closed
              (false_from_ne_true _
              (λ h. both_ways _ closed (runs-is_open n c (falls-runs (verdict (n + 1) c) refl h))))
        ]

    pub open-was_open : is_open (verdict (n + 1) c) ≡ (is_open (verdict n c) && is_open (verdict (n + 1) c))
    open-was_open =
        elim (cases_Bool (is_open (verdict n c))) [
          | inl on ↦ rw on refl
          | inr closed ↦
              rw closed
              (false_from_ne_true _
              (λ h. both_ways _ closed
              (runs-is_open n c (runs-before n (n + 1) c (omega arith) (is_open-runs (n + 1) c h)))))
        ]

    -- where the clock is disabled
    disables : (v : Verdict) → verdict (n + 1) c ≡ v → IsRunning n c → IsTrue (off n) → v ≡ outcome.Disabled n
    disables outcome.Open e runs is = let h = stated-as (n + 1) c outcome.Open e in absurd (h.1 n le (omega arith) is)
    disables (outcome.Holds t) e runs is =
        let h = stated-as (n + 1) c (outcome.Holds t) e in
        absurd (h.1 n le (omega (arith, first-now t Held runs h.0)) is)
    disables (outcome.Vacuous t) e runs is =
        let h = stated-as (n + 1) c (outcome.Vacuous t) e in
        absurd (h.1 n le (omega (arith, first-now t Vacuously runs h.0)) is)
    disables (outcome.Fails t) e runs is =
        let h = stated-as (n + 1) c (outcome.Fails t) e in
        absurd (h.1 n le (omega (arith, first-now t Failed runs h.0)) is)
    disables (outcome.Disabled t) e runs is =
        ap outcome.Disabled (eqb-true t n (open-falls (outcome.Disabled t) e runs))

    pub off-Disabled : is_open (verdict n c) ≡ true → off n ≡ true → verdict (n + 1) c ≡ outcome.Disabled n
    off-Disabled on is = disables (verdict (n + 1) c) refl (is_open-runs n c on) is
