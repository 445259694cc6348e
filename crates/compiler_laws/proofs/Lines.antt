-- The line of a program is that of its assertion's verdicts.
use Rattle.std.proofs.Common.{◌≡◌, ◌∙◌, inl, inr, ℕ, ◌<◌, Bool, List, [], ◌∷◌, ◌++◌, length, map, refl, sym, ap, subst}
use Rattle.std.proofs.Common.{arith}
use Rattle.std.specs.Prelude.{slice_index_or, filter_map}
use Rattle.std.specs.List.{range_with_len}
use Rattle.signals.specs.declared.verdict.Verdict.{Verdict}
use Rattle.signals.specs.declared.verdict.Verdict.TheVariants as outcome
use Rattle.signals.specs.declared.verdict.Decided.{Decided}
use Rattle.report_lines.specs.Tallies.{is_holds, is_vacuous, is_fails, is_disabled, is_open, tally_of}
use Rattle.report_lines.specs.Lines.{line_data_of}
use Rattle.assertions.specs.declared.sequence.Boolean.{Boolean}
use Rattle.assertions.specs.Segments.{Seq}
use Rattle.assertions.specs.Attempts.{Antecedent, IsVerdict, verdict}
use Rattle.assertions.proofs.Verdicts.{IsVerdict-verdict, IsVerdict-only}
use Rattle.machine_checked.specs.Clocks.{Attempt}
use Rattle.machine_checked.specs.Runs.{Decides}
use Rattle.machine_checked.specs.Runs.{open_ones}
use Rattle.machine_batches.specs.Lines.{failure_of, line_over}
use Rattle.machine_sections.specs.Monitors.{program_monitor}
use Rattle.machine_sections.specs.Laws.{all_fallen, starts_of}
use Rattle.machine_sections.proofs.Selections.{map-same}
use Rattle.machine_sections.proofs.Histories.{listed}
use Rattle.machine_sections.proofs.Rows.{by-meaning as runs-by-meaning}
use Rattle.compiler_laws.specs.LineLaws.{FallsBefore, still_open, row_of, LinesAreOne, LineByMeaning}
use Rattle.compiler_laws.proofs.Tallied.{tallied}
use Rattle.compiler_laws.proofs.Failures.{failures}

tallies : (v : ℕ → Verdict) (n : ℕ) → ((c : ℕ) → c < n → FallsBefore n (v c))
    → tally_of (map (λ (d : Decided). d.verdict) (all_fallen v n ++ still_open v n))
    ≡ tally_of (map v (range_with_len 0 n))
tallies v n falls =
    let holds = tallied is_holds v n falls in
    let vacuous = tallied is_vacuous v n falls in
    let fails = tallied is_fails v n falls in
    let disabled = tallied is_disabled v n falls in
    let unknown = tallied is_open v n falls in
    cc

pub are-one : LinesAreOne
are-one name v count falls =
    ap (λ counts. record
    { name = name; counts = counts; fails = filter_map failure_of (all_fallen v count ++ still_open v count) })
    (tallies v count falls)
    ∙ ap (λ fails. record { name = name; counts = tally_of (map v (range_with_len 0 count)); fails = fails })
    (failures v count falls)

falls-before : (value : Boolean → ℕ → Bool) (off : ℕ → Bool) (r : Antecedent Boolean) (s : Seq Boolean)
    (end c : ℕ) (w : Verdict)
    → IsVerdict value off r s end c w → FallsBefore end w
falls-before value off r s end c outcome.Open is = tt
falls-before value off r s end c (outcome.Holds t) is = omega (arith, is.0.within)
falls-before value off r s end c (outcome.Vacuous t) is = omega (arith, is.0.within)
falls-before value off r s end c (outcome.Fails t) is = omega (arith, is.0.within)
falls-before value off r s end c (outcome.Disabled t) (inl is) = omega (arith, is.2.within, is.3.below)
falls-before value off r s end c (outcome.Disabled t) (inr is) = omega (arith, is.1.below)

-- the live attempts by where they began
open-starts : (live : List Attempt) → open_ones live ≡ map (λ c. record { start = c; verdict = outcome.Open })
    (starts_of live)
open-starts [] = refl
open-starts (a ∷ live) = ap (λ ds. record { start = a.start; verdict = outcome.Open } ∷ ds) (open-starts live)

pub by-meaning : LineByMeaning
by-meaning p rows counters atoms value r s verdicts accepted samples watches fills are =
    let off = (program_monitor p atoms).off in
    let n = length rows in
    let v : ℕ → Verdict = verdict value off r s n in
    let over = runs-by-meaning p (row_of rows) counters atoms value r s n accepted samples watches fills in
    let live : open_ones over.last.standing.attempts ≡ still_open v n =
    open-starts over.last.standing.attempts ∙ ap (map (λ c. record { start = c; verdict = outcome.Open })) over.live in
    let said : map v (range_with_len 0 n) ≡ verdicts =
    map-same v (λ c. slice_index_or verdicts c outcome.Open) 0 n
    (λ c from below. IsVerdict-only Boolean value off r s n c (slice_index_or verdicts c outcome.Open)
    (are.each c (omega arith)))
    ∙ ap (λ k. map (λ c. slice_index_or verdicts c outcome.Open) (range_with_len 0 k)) (sym are.long)
    ∙ listed verdicts outcome.Open in
    record {
      decided = all_fallen v n;
      last = over.last;
      ran = subst (λ xs. Decides p xs (all_fallen v n) over.last) (listed rows []) over.ran;
      is =
          ap (line_data_of p.header.name) (sym said)
          ∙ sym (are-one p.header.name v n
          (λ c below. falls-before value off r s n c (v c) (IsVerdict-verdict Boolean value off r s n c)))
          ∙ ap (λ ds. line_over p.header.name (all_fallen v n ++ ds)) (sym live);
    }
