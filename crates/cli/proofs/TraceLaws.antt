-- A report with the rows that it is on and the times of its clocks.
use Rattle.std.proofs.Common.{◌≡◌, ◌∙◌, ℕ, ◌<◌, List, [], ◌∷◌, Some, length, map, refl, sym, ap, subst}
use Rattle.std.specs.Prelude.{slice_get, slice_index, string_bytes}
use Rattle.std.specs.List.{AllByRecursion, AllZip}
use Rattle.std.proofs.lemmas.List.{length-map}
use Rattle.assertions.specs.declared.signal.Signal.{Signal}
use Rattle.assertions.specs.declared.suite.Suite.{Suite}
use Rattle.expressions.specs.declared.rows.Rows.{Rows}
use Rattle.expressions.specs.Rows.{HasCounts}
use Rattle.vcd_reader.specs.declared.dump.Dump.{Dump}
use Rattle.vcd_reader.specs.Variables.{Declared}
use Rattle.vcd_reader.specs.Dump.{Contents}
use Rattle.vcd_reader.specs.Held.{HoldsContents, variables_of, steps_in}
use Rattle.cycle_window.specs.Bound.{IsClock}
use Rattle.cycle_window.specs.Ticks.{ticks_of, row_of}
use Rattle.cycle_window.specs.Times.{time_of_step}
use Rattle.report_lines.specs.Lines.{ReportData, LineData}
use Rattle.report_programs.specs.Lines.{IsWatched, AreVariables, rows_at}
use Rattle.report_suites.specs.Named.{AreNamed}
use Rattle.report_suites.specs.Judged.{AreLinesOver}
use Rattle.report_suites.specs.Reported.{OverRows, Reports, rows_of}
use Rattle.report_suites.proofs.ReportLaws.{have_places}
use Rattle.cli.specs.Reported.{SaysSuite, HasReport}
use Rattle.cli.specs.Timed.{AreTimesIn, TellsTimes}
use Rattle.cli.specs.Explained.{IsTraced}
use Rattle.cli.proofs.ProgramLaws.{reports_by}
use Rattle.cli.proofs.TextLaws.{are_named}
use Rattle.cli.proofs.TimeLaws.{step_time}

-- watched signals have names
pub all_named : (vs : List Declared) (ss : List Signal) → AllByRecursion (IsWatched vs) ss → AreNamed vs ss
all_named vs [] h = tt
all_named vs (s ∷ ss) h = (h.0, all_named vs ss h.1)

-- the lines of a report over rows
pub over_lines : (suite : Suite) (rows : List (List ℕ)) (r : ReportData) → OverRows suite rows r
    → AreLinesOver suite rows suite.assertions.items r.lines
over_lines suite rows r over =
    subst (λ (ls : List LineData). AreLinesOver suite rows suite.assertions.items ls)
    (sym (ap (λ (d : ReportData). d.lines) over.is)) over.judged

pub traced_lines : (c : Contents) (text : List ℕ) (suite : Suite) (rows : Rows) (r : ReportData) (times : List ℕ)
    → IsTraced c text suite rows r times → AreLinesOver suite rows.signals suite.assertions.items r.lines
traced_lines c text suite rows r times t =
    subst (λ (all : List (List ℕ)). AreLinesOver suite all suite.assertions.items r.lines) (sym t.rows_are)
    (over_lines suite (rows_of c t.reports.clock t.reports.signals) r t.reports.over)

-- rows at the ticks of the clock with a code are those of the report
rows_traced : (c : Contents) (suite : Suite) (r : ReportData) (reports : Reports c suite r) (code : ℕ)
    (rows : List (List ℕ)) → IsClock c.variables (string_bytes suite.clock) code
    → rows ≡ map (row_of c reports.signals) (ticks_of c code) → rows ≡ rows_of c reports.clock reports.signals
rows_traced c suite r reports code rows (v, named, bit, is_code) are =
    let both : Some v ≡ Some reports.clock = sym named ∙ reports.bound.clock_named in
    let same : v ≡ reports.clock = cc in
    are ∙ ap (λ (n : ℕ). map (row_of c reports.signals) (ticks_of c n)) is_code
    ∙ ap (λ (clock : ℕ). rows_of c clock reports.signals) same

module _ (c : Contents) (d : Dump) (text : List ℕ) (suite : Suite) (code : ℕ) (ticks : List ℕ)
    (holds : HoldsContents d c) (says : SaysSuite c text suite)
    (at : IsClock (variables_of d) (string_bytes suite.clock) code) (ticks_are : ticks ≡ ticks_of c code) where
  clock : IsClock c.variables (string_bytes suite.clock) code
  clock = subst (λ (vs : List Declared). IsClock vs (string_bytes suite.clock) code) holds.variables at

  timed : (clocks : ℕ) (times : List ℕ) → AreTimesIn (steps_in d) ticks clocks times → TellsTimes c text clocks times
  timed clocks times are = record {
    suite = suite;
    says = says;
    code = code;
    clock = clock;
    many = are.many;
    each = λ k below.
        are.each k below ∙ ap (λ (l : List ℕ). time_of_step (steps_in d) (slice_get l k)) ticks_are
        ∙ step_time d c holds (slice_get (ticks_of c code) k);
  }

  -- as many times as the report has clocks
  pub times_told : (r : ReportData) (n : ℕ) (times : List ℕ)
      → ((signals : List ℕ) → AreVariables c suite signals → OverRows suite (rows_at c signals code) r)
      → n ≡ length ticks → AreTimesIn (steps_in d) ticks n times → TellsTimes c text r.clocks times
  times_told r n times over many times_are =
      let have = have_places c.variables suite.names.items (are_named c c.variables says.items suite refl says.typed) in
      let clocks : n ≡ r.clocks =
      many ∙ ap (λ (l : List ℕ). length l) ticks_are ∙ sym (length-map (ticks_of c code) (row_of c have.places))
      ∙ sym (ap (λ (x : ReportData). x.clocks) (over have.places have.are).is) in
      subst (λ (k : ℕ). TellsTimes c text k times) clocks (timed n times times_are)

  pub traced : (rows : Rows) (r : ReportData) (n : ℕ) (times : List ℕ) → HasCounts suite.counters.items rows
      → ((signals : List ℕ) → AreVariables c suite signals
      → rows.signals ≡ map (row_of c signals) (ticks_of c code))
      → ((signals : List ℕ) → AreVariables c suite signals → OverRows suite (rows_at c signals code) r)
      → n ≡ length rows.signals → AreTimesIn (steps_in d) ticks n times → IsTraced c text suite rows r times
  traced rows r n times counts are over many times_are =
      let named = are_named c c.variables says.items suite refl says.typed in
      let reports = reports_by c suite code r clock named over in
      let same : rows.signals ≡ rows_of c reports.clock reports.signals =
      rows_traced c suite r reports code rows.signals clock (are reports.signals reports.bound.signals_named) in
      let clocks : n ≡ r.clocks =
      many ∙ ap (λ (all : List (List ℕ)). length all) same
      ∙ sym (ap (λ (x : ReportData). x.clocks) reports.over.is) in
      record {
        says = says;
        reports = reports;
        rows_are = same;
        counted = counts;
        timed = subst (λ (k : ℕ). TellsTimes c text k times) clocks (timed n times times_are);
      }

-- a report on a text
pub traced_report : (c : Contents) (text : List ℕ) (suite : Suite) (rows : Rows) (r : ReportData) (times : List ℕ)
    → IsTraced c text suite rows r times → HasReport c text r
traced_report c text suite rows r times t = record { suite = suite; says = t.says; reports = t.reports }
