-- Over any atoms the clocks of the checked machine decide by the meaning.
use Rattle.std.proofs.Common.{◌≡◌, ◌∙◌, ℕ, zero, suc, ◌+◌, ◌<◌, Bool, List, [], ◌∷◌, sym, ap, subst, arith}
use Rattle.std.specs.Prelude.{map}
use Rattle.std.specs.List.{range_with_len}
use Rattle.signals.specs.declared.verdict.Verdict.{Verdict}
use Rattle.bytecode_programs.specs.Values.{ProgramData}
use Rattle.verifier.specs.Programs.{IsAccepted}
use Rattle.assertions.specs.declared.sequence.Boolean.{Boolean}
use Rattle.assertions.specs.Segments.{Seq}
use Rattle.assertions.specs.Attempts.{Antecedent, verdict}
use Rattle.machine_checked.specs.Outcomes.{Meets}
use Rattle.machine_checked.specs.Clocks.{Settled, none_standing, clock_after}
use Rattle.machine_checked.specs.Bounds.{IsReached}
use Rattle.machine_checked.proofs.Outcomes.{Meets-and_then, Meets-weaker}
use Rattle.machine_sections.specs.Monitors.{Monitor, program_monitor}
use Rattle.machine_sections.specs.Standing.{standing_at, falling}
use Rattle.machine_sections.specs.Clocked.{Clocked, behind_batch, clocks_after}
use Rattle.machine_sections.specs.Laws.{Watches, Fills, fallen, starts_of, IsJudged, IsSampled, sampled_at}
use Rattle.machine_sections.specs.Laws.{DecidesByMeaning}
use Rattle.machine_sections.proofs.Selections.{map-same}
use Rattle.machine_sections.proofs.Deciding.{Goes, clock-decides, falling-fallen, starts-open}

module _ (p : ProgramData) (atoms : ℕ → List Bool) (left : ℕ → ℕ) (value : Boolean → ℕ → Bool) (r : Antecedent Boolean)
    (s : Seq Boolean)
    (accepted : IsAccepted p) (watches : Watches p atoms value r s) (fills : Fills value s) where
  abbrev m : Monitor
  m = program_monitor p atoms

  abbrev v : ℕ → ℕ → Verdict
  v = verdict value m.off r s

  abbrev came_to : ℕ → ℕ → Clocked
  came_to first count =
      record { standing = standing_at m v (first + count); batches = map (falling v) (range_with_len first count) }

  abbrev Comes : ℕ → ℕ → Clocked → ℕ → Type 0
  Comes first count x rest = x ≡ came_to first count

  clocks-decide : (first count : ℕ) → ((k : ℕ) → k < first + count → IsSampled p (sampled_at atoms left k))
      → IsReached p (standing_at m v first)
      → Meets (Comes first count)
      (clocks_after p (standing_at m v first) (map (sampled_at atoms left) (range_with_len first count)))
  clocks-decide first zero sampled reached =
      let e : first ≡ first + zero = omega arith in
      ap (λ k. record { standing = standing_at m v k; batches = [] }) e
  clocks-decide first (suc count) sampled reached =
      let e : first + 1 + count ≡ first + suc count = omega arith in
      let here = sampled first (omega arith) in
      Meets-and_then (Goes p atoms value r s accepted watches fills first) (Comes first (suc count))
      (clock_after p (standing_at m v first) (atoms first) (left first)) _
      (clock-decides p atoms value r s accepted watches fills first (left first) reached here.atoms here.left)
      (λ o rest h.
      let state : o.state ≡ standing_at m v (first + 1) = ap (λ (o : Settled). o.state) h.1 in
      let later = map (sampled_at atoms left) (range_with_len (first + 1) count) in
      Meets-and_then (Comes (first + 1) count) (Comes first (suc count)) (clocks_after p o.state later) _
      (subst (λ st. Meets (Comes (first + 1) count) (clocks_after p st later)) (sym state)
      (clocks-decide (first + 1) count (λ k below. sampled k (omega arith)) (subst (IsReached p) state h.0)))
      (λ x last is.
      ap (behind_batch o.decided) is
      ∙ ap (λ ds. behind_batch ds (came_to (first + 1) count)) (ap (λ (o : Settled). o.decided) h.1)
      ∙ ap (λ k. record {
        standing = standing_at m v k;
        batches = falling v first ∷ map (falling v) (range_with_len (first + 1) count);
      }) e))

  judged : (count : ℕ) (x : Clocked) → x ≡ came_to 0 count → IsJudged (v count) count x
  judged count x is =
      let e : 0 + count ≡ count = omega arith in record {
        batches =
            ap (λ (x : Clocked). x.batches) is
            ∙ map-same (falling v) (fallen (v count) count) 0 count
            (λ k from below. falling-fallen p atoms value r s accepted watches fills count k (omega arith));
        live =
            ap (λ (x : Clocked). starts_of x.standing.attempts) is
            ∙ ap (λ k. starts_of (standing_at m v k).attempts) e
            ∙ starts-open p atoms value r s accepted watches fills count;
      }

  pub decides-atoms : (count : ℕ) → ((k : ℕ) → k < count → IsSampled p (sampled_at atoms left k))
      → Meets (λ x rest. IsJudged (v count) count x)
      (clocks_after p none_standing (map (sampled_at atoms left) (range_with_len 0 count)))
  decides-atoms count sampled =
      Meets-weaker (Comes 0 count) (λ x rest. IsJudged (v count) count x)
      (clocks_after p none_standing (map (sampled_at atoms left) (range_with_len 0 count)))
      (λ x rest. judged count x)
      (clocks-decide 0 count (λ k below. sampled k (omega arith))
      (record { attempts = omega arith; obligations = omega arith }))

pub theorem : DecidesByMeaning
theorem p atoms left value r s count accepted sampled watches fills =
    decides-atoms p atoms left value r s accepted watches fills count sampled
