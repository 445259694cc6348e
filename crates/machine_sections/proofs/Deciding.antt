-- A clock of the checked machine goes from what stands for the meaning to what stands for it, and decides what falls.
use Rattle.std.proofs.Common.{◌≡◌, ◌∙◌, inl, inr, ℕ, ◌+◌, ◌-◌, ◌<◌, ◌≤◌, Bool, true, List, length, sym, ap, subst}
use Rattle.std.proofs.Common.{arith}
use Rattle.std.specs.Prelude.{map}
use Rattle.std.proofs.lemmas.Bool.{false_from_ne_true, eqb-true}
use Rattle.signals.specs.declared.verdict.Verdict.{Verdict}
use Rattle.signals.specs.declared.verdict.Verdict.TheVariants as outcome
use Rattle.bytecode_programs.specs.Values.{ProgramData}
use Rattle.bytecode_programs.specs.Instructions.{sample_flow}
use Rattle.verifier.specs.Limits.{longest_path}
use Rattle.verifier.specs.Programs.{IsAccepted}
use Rattle.assertions.specs.declared.sequence.Boolean.{Boolean}
use Rattle.assertions.specs.Segments.{Seq}
use Rattle.assertions.specs.Attempts.{Antecedent, verdict, IsVerdict}
use Rattle.machine_checked.specs.Outcomes.{Ran, done, trapped, Meets}
use Rattle.machine_checked.specs.Clocks.{Attempt, Settled, clock_after}
use Rattle.machine_checked.specs.Bounds.{IsReached}
use Rattle.machine_checked.proofs.Typing.{IsSection}
use Rattle.machine_checked.proofs.Outcomes.{Meets-weaker}
use Rattle.machine_checked.proofs.Accepted.{formed-of, limits-of}
use Rattle.machine_checked.proofs.Clocks.{clock-meets}
use Rattle.machine_sections.specs.Monitors.{Monitor, program_monitor, monitor_clock}
use Rattle.machine_sections.specs.Standing.{select_ticks, is_open, falls_at, attempt_at, standing_at, falling}
use Rattle.machine_sections.specs.Laws.{Watches, Fills, fallen, open_starts, starts_of}
use Rattle.machine_sections.proofs.Selections.{select-longer, map-select}
use Rattle.machine_sections.proofs.Verdicts.{AreVerdicts}
use Rattle.machine_sections.proofs.Clocks.{clock-goes}
use Rattle.machine_sections.proofs.Runs.{computed, falling-later}
use Rattle.machine_sections.proofs.Blocks.{Gives}
use Rattle.machine_sections.proofs.Machines.{clock-gives}

Meets-gives : {A : Type 0} (P : A → ℕ → Type 0) (Q : A → Type 0) (x : Ran A) → Meets P x → Gives Q x
    → Meets (λ a n. P a n × Q a) x
Meets-gives P Q (done a n) p q = (p, q)
Meets-gives P Q (trapped t) p q = p

-- an attempt that begins after a clock doesn't fall at it
late : (B : Type 0) (value : B → ℕ → Bool) (off : ℕ → Bool) (r : Antecedent B) (s : Seq B) (end c k : ℕ) → k < c
    → (v : Verdict)
    → IsVerdict value off r s end c v → falls_at k v ≡ true → ⊥
late B value off r s end c k below outcome.Open is h = cc
late B value off r s end c k below (outcome.Holds t) is h = let e = eqb-true t k h in omega (arith, is.0.above)
late B value off r s end c k below (outcome.Vacuous t) is h = let e = eqb-true t k h in omega (arith, is.0.above)
late B value off r s end c k below (outcome.Fails t) is h = let e = eqb-true t k h in omega (arith, is.0.above)
late B value off r s end c k below (outcome.Disabled t) (inl is) h = let e = eqb-true t k h in omega (arith, is.3.from)
late B value off r s end c k below (outcome.Disabled t) (inr is) h = let e = eqb-true t k h in omega (arith, is.1.from)

module _ (p : ProgramData) (atoms : ℕ → List Bool) (value : Boolean → ℕ → Bool) (r : Antecedent Boolean)
    (s : Seq Boolean)
    (accepted : IsAccepted p) (watches : Watches p atoms value r s) (fills : Fills value s) where
  abbrev m : Monitor
  m = program_monitor p atoms

  abbrev v : ℕ → ℕ → Verdict
  v = verdict value m.off r s

  are : AreVerdicts value m.off r s v
  are = computed Boolean value m.off r s

  -- what clock n leaves, and what it decides
  abbrev pub settled_at : ℕ → Settled
  settled_at n = record { state = standing_at m v (n + 1); decided = falling v n }

  abbrev pub Goes : ℕ → Settled → ℕ → Type 0
  Goes n o left = IsReached p o.state × (o ≡ settled_at n)

  -- a clock that begins where what stands stands for the meaning
  pub clock-decides : (n left : ℕ) → IsReached p (standing_at m v n) → length (atoms n) ≡ p.header.atoms
      → p.header.limits.budget ≤ left + longest_path 0 (map sample_flow p.sample)
      → Meets (Goes n) (clock_after p (standing_at m v n) (atoms n) left)
  clock-decides n left reached long enough =
      let formed = formed-of p accepted in
      let limits = limits-of p accepted in
      let fine_a : IsSection (length (atoms n)) p.antecedent =
      subst (λ k. IsSection k p.antecedent) (sym long) formed.antecedent in
      let fine_c : IsSection (length (atoms n)) p.consequent =
      subst (λ k. IsSection k p.consequent) (sym long) formed.consequent in
      Meets-weaker (λ o left. IsReached p o.state × (o ≡ monitor_clock m (standing_at m v n))) (Goes n)
      (clock_after p (standing_at m v n) (atoms n) left)
      (λ o left h. (h.0, h.1 ∙ clock-goes Boolean value r s m watches.antecedent watches.consequent fills v are n))
      (Meets-gives (λ o left. IsReached p o.state) (λ o. o ≡ monitor_clock m (standing_at m v n))
      (clock_after p (standing_at m v n) (atoms n) left)
      (clock-meets p (longest_path 0 (map sample_flow p.sample)) formed limits (standing_at m v n) (atoms n) left
      reached long (omega (arith, limits.budget, enough)))
      (clock-gives p atoms (standing_at m v n) left fine_a fine_c))

  -- what a clock decides is what falls there over the whole trace
  pub falling-fallen : (count k : ℕ) → k < count → falling v k ≡ fallen (v count) count k
  falling-fallen count k below =
      let whole : k + 1 + (count - (k + 1)) ≡ count = omega arith in
      falling-later Boolean value m.off r s v are k count below
      ∙ sym (select-longer (λ c. falls_at k (v count c)) (λ c. record { start = c; verdict = v count c }) 0 (k + 1)
      (count - (k + 1))
      (λ c from. false_from_ne_true _
      (late Boolean value m.off r s count c k (omega arith) (v count c) (are.stated count c))))
      ∙ ap (select_ticks (λ c. falls_at k (v count c)) (λ c. record { start = c; verdict = v count c }) 0) whole

  pub starts-open : (count : ℕ) → starts_of (standing_at m v count).attempts ≡ open_starts (v count) count
  starts-open count = map-select (λ (a : Attempt). a.start) (λ c. is_open (v count c)) (attempt_at m count) 0 count
