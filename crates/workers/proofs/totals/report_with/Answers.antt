use Rattle.std.proofs.Common.{◌≡◌, ◌∙◌, ℕ, List, sym, ap, map}
use Rattle.std.specs.List.{slice_index, sum_by}
use Rattle.report_lines.specs.Lines.{LineData, ReportData, line, held_count}
use Rattle.workers.specs.Tallied.{count_in, lines_said}
use Rattle.workers.proofs.Adding.{said-line, with-total}
use Rattle.workers.proofs.totals.report_with.Goals as goal

pub returns : goal.returns
returns c =
    let ls = c.args.lines.items in
    let is = c.requires in
    let held : (k : ℕ) → held_count (sum_by (λ (l : LineData). count_in k l.counts) (map line ls))
    ≡ held_count (lines_said k ls) =
    (λ k. ap held_count (said-line k ls)) in
    let holds = ap (λ (ts : List ℕ). slice_index ts 0) is ∙ sym (held 0) in
    let vacuous = ap (λ (ts : List ℕ). slice_index ts 1) is ∙ sym (held 1) in
    let fails = ap (λ (ts : List ℕ). slice_index ts 2) is ∙ sym (held 2) in
    let disabled = ap (λ (ts : List ℕ). slice_index ts 3) is ∙ sym (held 3) in
    let new = c.new-report.ensures in
    let clocks = ap (λ (d : ReportData). d.clocks) new in
    let lines = ap (λ (d : ReportData). d.lines) new in
    let open_ones = ap (λ (d : ReportData). d.total.still_open) new in
    with-total holds vacuous fails disabled clocks lines open_ones
