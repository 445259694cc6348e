-- Over any rows the checked machine decides by the meaning.
use Rattle.std.proofs.Common.{◌≡◌, ◌∙◌, ℕ, zero, suc, ◌+◌, ◌<◌, ◌≤◌, Bool, false, List, [], ◌++◌, length, map, refl}
use Rattle.std.proofs.Common.{sym, ap, subst, arith}
use Rattle.std.proofs.Math.ListN.{length-replicate}
use Rattle.std.specs.List.{range_with_len, flat_map}
use Rattle.signals.specs.declared.verdict.Verdict.{Verdict}
use Rattle.signals.specs.declared.verdict.Decided.{Decided}
use Rattle.bytecode_programs.specs.Values.{ProgramData}
use Rattle.bytecode_programs.specs.Instructions.{frame_of, sample_flow}
use Rattle.verifier.specs.Limits.{longest_path}
use Rattle.verifier.specs.Programs.{IsAccepted}
use Rattle.assertions.specs.declared.sequence.Boolean.{Boolean}
use Rattle.assertions.specs.Segments.{Seq}
use Rattle.assertions.specs.Attempts.{Antecedent, verdict}
use Rattle.machine_checked.specs.Outcomes.{Ran, done, trapped, Meets}
use Rattle.machine_checked.specs.Samples.{Made, nothing_made}
use Rattle.machine_checked.specs.Clocks.{Settled, clock_after}
use Rattle.machine_checked.specs.Machine.{State, Outcome, opening, sample_of, stored, with_standing, clock}
use Rattle.machine_checked.specs.Runs.{outcome_behind, run_from}
use Rattle.machine_checked.specs.Bounds.{IsReached}
use Rattle.machine_checked.proofs.Outcomes.{Meets-and_then}
use Rattle.machine_checked.proofs.Accepted.{limits-of, runs-of}
use Rattle.machine_checked.proofs.Samples.{run_sample-meets}
use Rattle.machine_checked.proofs.Machine.{cost, longer}
use Rattle.machine_sections.specs.Monitors.{Monitor, program_monitor}
use Rattle.machine_sections.specs.Standing.{standing_at, falling}
use Rattle.machine_sections.specs.History.{rows_before, sample_rows, sample_run, IsSampleMade, SamplesAs}
use Rattle.machine_sections.specs.Laws.{Watches, Fills, fallen, all_fallen, IsJudgedOver, RunsByMeaning}
use Rattle.machine_sections.proofs.Deciding.{Goes, clock-decides, falling-fallen, starts-open}

Meets-both : {A : Type 0} (P Q : A → ℕ → Type 0) (x : Ran A) → Meets P x → Meets Q x → Meets (λ a n. P a n × Q a n) x
Meets-both P Q (done a n) h g = (h, g)
Meets-both P Q (trapped t) h g = h

-- what comes to this value, with so much of the budget left
Meets-done : {A : Type 0} (a : A) (n : ℕ) (x : Ran A) → Meets (λ b m. (b ≡ a) × (m ≡ n)) x → x ≡ done a n
Meets-done a n (done b m) h = ap (λ c. done c m) h.0 ∙ ap (done a) h.1
Meets-done a n (trapped t) h = absurd h

-- the sample code of an accepted program sets its atoms and leaves the rest of the budget
abbrev Costs : ProgramData → Made → ℕ → Type 0
Costs p made left =
    (p.header.limits.budget ≤ left + longest_path 0 (map sample_flow p.sample)) × (length made.atoms ≡ p.header.atoms)

sample-costs : (p : ProgramData) (signals counters : ℕ → List ℕ) (a : IsAccepted p) (k : ℕ)
    → Meets (Costs p) (sample_run p signals counters k)
unfolding cost
sample-costs p signals counters a k =
    run_sample-meets (frame_of p) p.header.limits (sample_of (sample_rows p signals counters k)) p.sample a.table
    (runs-of p a) (cost p a) (longer p a) p.header.limits.budget 0 [] (nothing_made (frame_of p))
    (length-replicate p.header.atoms false) a.sample.some a.sample.begins (omega (arith, (limits-of p a).budget))

module _ (p : ProgramData) (signals counters : ℕ → List ℕ) (atoms : ℕ → List Bool) (value : Boolean → ℕ → Bool)
    (r : Antecedent Boolean) (s : Seq Boolean) (accepted : IsAccepted p) (watches : Watches p atoms value r s)
    (fills : Fills value s) where
  abbrev m : Monitor
  m = program_monitor p atoms

  abbrev v : ℕ → ℕ → Verdict
  v = verdict value m.off r s

  -- before clock n
  abbrev state_at : ℕ → State
  state_at n = record { standing = standing_at m v n; rows = rows_before p signals counters n; counters = counters n }

  abbrev outcome_at : ℕ → Outcome
  outcome_at n = record { state = state_at (n + 1); decided = falling v n }

  abbrev Makes : ℕ → Made → ℕ → Type 0
  Makes n made left = IsSampleMade (counters n) (atoms n) (counters (n + 1)) made

  abbrev Steps : ℕ → Outcome → ℕ → Type 0
  Steps n o left = IsReached p o.state.standing × (o ≡ outcome_at n)

  -- with what the sample code made, and what stands after the clock
  outcome-same : (n : ℕ) (made : Made) (o : Settled) → stored made.stores (counters n) ≡ counters (n + 1)
      → o ≡ record { state = standing_at m v (n + 1); decided = falling v n }
      → with_standing (sample_rows p signals counters n) (stored made.stores (counters n)) o ≡ outcome_at n
  outcome-same n made o next is =
      let e : suc n ≡ n + 1 = omega arith in
      ap (with_standing (sample_rows p signals counters n) (stored made.stores (counters n))) is
      ∙ ap (λ cs. with_standing (sample_rows p signals counters n) cs
      (record { state = standing_at m v (n + 1); decided = falling v n })) next
      ∙ ap (λ k. with_standing (rows_before p signals counters k) (counters (n + 1))
      (record { state = standing_at m v (n + 1); decided = falling v n })) e

  clock-steps : (n : ℕ) → Meets (Makes n) (sample_run p signals counters n) → IsReached p (standing_at m v n)
      → Meets (Steps n) (clock p (state_at n) (signals n))
  clock-steps n makes reached =
      Meets-and_then (λ made left. Costs p made left × Makes n made left) (Steps n) (sample_run p signals counters n) _
      (Meets-both (Costs p) (Makes n) (sample_run p signals counters n) (sample-costs p signals counters accepted n)
      makes)
      (λ made left h.
      let long : length (atoms n) ≡ p.header.atoms = ap (λ (xs : List Bool). length xs) (sym h.1.atoms) ∙ h.0.1 in
      Meets-and_then (Goes p atoms value r s accepted watches fills n) (Steps n)
      (clock_after p (standing_at m v n) made.atoms left) _
      (subst (λ xs. Meets (Goes p atoms value r s accepted watches fills n) (clock_after p (standing_at m v n) xs left))
      (sym h.1.atoms)
      (clock-decides p atoms value r s accepted watches fills n left reached long h.0.0))
      (λ o rest g. (g.0, outcome-same n made o h.1.counters g.1)))

  abbrev came_to : ℕ → ℕ → Outcome
  came_to first count =
      record { state = state_at (first + count); decided = flat_map (falling v) (range_with_len first count) }

  abbrev Comes : ℕ → ℕ → Outcome → ℕ → Type 0
  Comes first count o left = (o ≡ came_to first count) × (left ≡ 0)

  run-comes : (first count : ℕ) → ((k : ℕ) → k < first + count → Meets (Makes k) (sample_run p signals counters k))
      → IsReached p (standing_at m v first)
      → Meets (Comes first count) (run_from p (state_at first) (map signals (range_with_len first count)))
  run-comes first zero makes reached =
      let e : first ≡ first + zero = omega arith in
      (ap (λ k. record { state = state_at k; decided = [] }) e, refl)
  run-comes first (suc count) makes reached =
      let e : first + 1 + count ≡ first + suc count = omega arith in
      Meets-and_then (Steps first) (Comes first (suc count)) (clock p (state_at first) (signals first)) _
      (clock-steps first (makes first (omega arith)) reached)
      (λ o left h.
      let state : o.state ≡ state_at (first + 1) = ap (λ (o : Outcome). o.state) h.1 in
      let later = map signals (range_with_len (first + 1) count) in
      Meets-and_then (Comes (first + 1) count) (Comes first (suc count)) (run_from p o.state later) _
      (subst (λ st. Meets (Comes (first + 1) count) (run_from p st later)) (sym state)
      (run-comes (first + 1) count (λ k below. makes k (omega arith))
      (subst (λ (st : State). IsReached p st.standing) state h.0)))
      (λ x rest is. (
        ap (outcome_behind o.decided) is.0
            ∙ ap (λ ds. outcome_behind ds (came_to (first + 1) count)) (ap (λ (o : Outcome). o.decided) h.1)
            ∙ ap (λ k. record {
              state = state_at k;
              decided = falling v first ++ flat_map (falling v) (range_with_len (first + 1) count);
            }) e,
        is.1,
      )))

  flat-same : (f g : ℕ → List Decided) (i k : ℕ) → ((j : ℕ) → i ≤ j → j < i + k → f j ≡ g j)
      → flat_map f (range_with_len i k) ≡ flat_map g (range_with_len i k)
  flat-same f g i zero same = refl
  flat-same f g i (suc k) same =
      ap (λ x. x ++ flat_map f (range_with_len (i + 1) k)) (same i (omega arith) (omega arith))
      ∙ ap (λ xs. g i ++ xs) (flat-same f g (i + 1) k (λ j from below. same j (omega arith) (omega arith)))

  pub judged-over : (count : ℕ) → SamplesAs p signals counters atoms count
      → IsJudgedOver p (map signals (range_with_len 0 count)) (v count) count
  judged-over count samples =
      let e : 0 + count ≡ count = omega arith in
      let rows = map signals (range_with_len 0 count) in
      let start : opening p ≡ state_at 0 =
      ap (λ cs. record { standing = standing_at m v 0; rows = (opening p).rows; counters = cs })
      (sym samples.opening) in
      let ran =
      Meets-done (came_to 0 count) 0 (run_from p (state_at 0) rows)
      (run-comes 0 count (λ k below. samples.each k (omega arith))
      (record { attempts = omega arith; obligations = omega arith })) in
      let all : flat_map (falling v) (range_with_len 0 count) ≡ all_fallen (v count) count =
      flat-same (falling v) (fallen (v count) count) 0 count
      (λ k from below. falling-fallen p atoms value r s accepted watches fills count k (omega arith)) in
      record {
        last = state_at count;
        ran =
            ap (λ st. run_from p st rows) start
            ∙ ran
            ∙ ap (λ k. done (record { state = state_at k; decided = flat_map (falling v) (range_with_len 0 count) }) 0)
            e
            ∙ ap (λ ds. done (record { state = state_at count; decided = ds }) 0) all;
        live = starts-open p atoms value r s accepted watches fills count;
      }

pub by-meaning : RunsByMeaning
by-meaning p signals counters atoms value r s count accepted samples watches fills =
    judged-over p signals counters atoms value r s accepted watches fills count samples
