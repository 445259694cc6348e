-- Explanations of failed attempts of a text over a dump, and the report as a page.
use Rattle.std.specs.Prelude.{◌≡◌, ℕ, Bool, true, false, List, length, map, string_bytes}
use Rattle.std.specs.Prelude.{Option, Some, None}
use Rattle.std.specs.List.{AllZip, list_any}
use Rattle.std.specs.Option.{option_map}
use Rattle.std.specs.Str.{bytes_eq}
use Rattle.std.specs.Io.KnownBytes.{Appends}
use Rattle.signals.specs.Source.{after_failure}
use Rattle.signals.specs.Sink.{AppendsFront}
use Rattle.expressions.specs.declared.rows.Rows.{Rows}
use Rattle.expressions.specs.Rows.{HasCounts}
use Rattle.assertions.specs.declared.suite.Suite.{Suite}
use Rattle.parser_grammar.specs.Trees.{ItemForm}
use Rattle.vcd_reader.specs.Dump.{Contents, GaveDump}
use Rattle.report_lines.specs.declared.line.Line.{Line}
use Rattle.report_lines.specs.declared.write.ReportFault.TheVariants as reports
use Rattle.report_lines.specs.Lines.{ReportData, line}
use Rattle.report_lines.specs.Shown.{data_of}
use Rattle.report_forms.specs.Provenances.{ProvenanceData}
use Rattle.report_suites.specs.Reported.{Reports, rows_of}
use Rattle.report_explained.specs.declared.explanation.Explanation.{Explanation}
use Rattle.report_explained.specs.declared.failed_attempt.FailedAttempt.{FailedAttempt}
use Rattle.report_explained.specs.declared.selection.Wanted.{Wanted}
use Rattle.report_explained.specs.Explained.{AreExplained}
use Rattle.report_explained.specs.ExplainedText.{IsExplainedText}
use Rattle.report_explained.specs.Told.{IsToldOf}
use Rattle.report_page.specs.PageForm.{IsPage}
use Rattle.cli_faults.specs.declared.fault.Fault.{Fault}
use Rattle.cli_faults.specs.declared.fault.Fault.TheVariants.{NoAssertion, Report, Memory}
use Rattle.cli_faults.specs.Runs.{Run, IsUnwritten}
use Rattle.cli.specs.declared.explained.Explained.{Explained}
use Rattle.cli.specs.declared.page.Paths.{Paths}
use Rattle.cli.specs.Heads.{counter_names}
use Rattle.cli.specs.Reported.{HasItems, SaysSuite}
use Rattle.cli.specs.Timed.{TellsTimes}
use Rattle.cli.specs.Outcomes.{WhyNoneByPrograms, WhyCheckRefused}

-- The suite that a text says over the contents of a dump, its rows with what its counters count,
-- the report on it, and the times of its clocks.
pub record IsTraced (c : Contents) (text : List ℕ) (suite : Suite) (rows : Rows)
    (report : ReportData) (times : List ℕ) : Type 0 where
  pub says : SaysSuite c text suite
  pub reports : Reports c suite report
  pub rows_are : rows.signals ≡ rows_of c reports.clock reports.signals
  pub counted : HasCounts suite.counters.items rows
  pub timed : TellsTimes c text report.clocks times

-- an assertion of the suite has this name
abbrev pub has_name : Suite → List ℕ → Bool
has_name suite name = list_any (λ a. bytes_eq (string_bytes a.name) name) suite.assertions.items

-- an assertion has the one name that is asked for, if one is
abbrev pub has_asked : Suite → Option (List ℕ) → Bool
has_asked suite None = true
has_asked suite (Some name) = has_name suite name

abbrev pub HasWanted : Suite → Wanted → Type 0
HasWanted suite w = has_asked suite (option_map (λ t. t.now) w.only) ≡ true

-- What is told of those failed attempts of the report on a text that are asked for: each is
-- explained over the rows that the report is on, with the text's names of counters.
pub record Explains (c : Contents) (text : List ℕ) (w : Wanted) (report : ReportData)
    (times : List ℕ) (told : List FailedAttempt) : Type 0 where
  pub suite : Suite
  pub rows : Rows
  pub traced : IsTraced c text suite rows report times
  pub asked : HasWanted suite w
  pub lines : List Line
  pub lines_are : map line lines ≡ report.lines
  pub explanations : List Explanation
  pub items : List ItemForm
  pub spelled : HasItems text items
  pub explained : AreExplained suite (counter_names items) rows w lines explanations
  pub told_of : AllZip (IsToldOf lines) explanations told

-- A text that tells of so many failed attempts.
pub record TellsFailures (c : Contents) (text : List ℕ) (w : Wanted) (out : List ℕ) (count : ℕ) :
    Type 0 where
  pub report : ReportData
  pub from : ProvenanceData
  pub told : List FailedAttempt
  pub explains : Explains c text w report from.times told
  pub is_text : IsExplainedText from told out
  pub counted : count ≡ length told

-- where a page's report comes from
abbrev pub from_paths : Paths → List ℕ → ProvenanceData
from_paths paths times =
    record { dump = paths.dump.now; text = paths.text.now; times = times }

-- A page of the report on a text, with pictures of the failed attempts that are asked for.
pub record IsPageOver (c : Contents) (text : List ℕ) (w : Wanted) (report : ReportData)
    (paths : Paths) (times page : List ℕ) : Type 0 where
  pub told : List FailedAttempt
  pub explains : Explains c text w report times told
  pub is_page : IsPage (from_paths paths times) report told page

-- of each assertion the first failed attempts
abbrev pub first_ones : ℕ → Wanted
first_ones most = record { only = None; start = None; most = most }

-- The one name that is asked for is that of no assertion.
abbrev pub IsUnnamed : Suite → Wanted → Fault → Type 0
IsUnnamed suite w (NoAssertion name) =
    (option_map (λ t. t.now) w.only ≡ Some (string_bytes name))
    × (has_name suite (string_bytes name) ≡ false)
IsUnnamed suite w Memory = Unit {0}
IsUnnamed suite w _ = ⊥

-- The text says a suite, and no assertion of it has the name that is asked for.
pub record IsWithoutName (c : Contents) (text : List ℕ) (w : Wanted) (fault : Fault) : Type 0 where
  pub suite : Suite
  pub says : SaysSuite c text suite
  pub unnamed : IsUnnamed suite w fault

-- why nothing of a text over these contents is explained
abbrev pub WhyNotExplained : Contents → List ℕ → Wanted → Fault → Type 0
WhyNotExplained c text w (NoAssertion name) = IsWithoutName c text w (NoAssertion name)
WhyNotExplained c text w fault = WhyNoneByPrograms c text fault

-- The source gave a dump, and what explains the failed attempts was written and handed on. No call
-- failed.
pub record IsExplanation (r : Run) (w : Wanted) (count : ℕ) : Type 0 where
  pub contents : Contents
  pub gave : GaveDump r.source_before.remaining r.source_after.remaining contents
  pub out : List ℕ
  pub tells : TellsFailures contents r.text w out count
  pub written : Appends r.sink_before.contents r.sink_after.contents out
  pub reads : r.source_after.failures ≡ r.source_before.failures
  pub writes : r.sink_after.failures ≡ r.sink_before.failures
  pub flushed : r.sink_after.keeps_back ≡ false

-- No assertion has the name that is asked for, and nothing was written.
pub record IsUnnamedRun (r : Run) (w : Wanted) (fault : Fault) : Type 0 where
  pub contents : Contents
  pub gave : GaveDump r.source_before.remaining r.source_after.remaining contents
  pub why : IsWithoutName contents r.text w fault
  pub reads : r.source_after.failures ≡ r.source_before.failures
  pub unwritten : IsUnwritten r

-- The sink failed, and holds a beginning of what explains the failed attempts.
pub record IsCutExplanation (r : Run) (w : Wanted) : Type 0 where
  pub contents : Contents
  pub gave : GaveDump r.source_before.remaining r.source_after.remaining contents
  pub out : List ℕ
  pub count : ℕ
  pub tells : TellsFailures contents r.text w out count
  pub front : AppendsFront r.sink_before.contents r.sink_after.contents out
  pub reads : r.source_after.failures ≡ r.source_before.failures
  pub writes : r.sink_after.failures ≡ after_failure r.sink_before.failures

-- why nothing is explained, or not all of it written
abbrev pub WhyExplainRefused : Run → Wanted → Fault → Type 0
WhyExplainRefused r w (NoAssertion name) = IsUnnamedRun r w (NoAssertion name)
WhyExplainRefused r w (Report reports.Write) = IsCutExplanation r w
WhyExplainRefused r w fault = WhyCheckRefused r fault

-- In memory: explanations of a report's failed attempts over the contents of a dump.
pub record IsExplainedOver (c : Contents) (text : List ℕ) (w : Wanted) (e : Explained) :
    Type 0 where
  pub traced :
      IsTraced c text e.trace.suite e.trace.rows (data_of e.trace.report) e.trace.times.items
  pub asked : HasWanted e.trace.suite w
  pub items : List ItemForm
  pub spelled : HasItems text items
  pub explained : AreExplained e.trace.suite (counter_names items) e.trace.rows w
      e.trace.report.lines.items e.explanations.items

-- what is told of explanations in memory
abbrev pub IsToldIn : Explained → List FailedAttempt → Type 0
IsToldIn e told = AllZip (IsToldOf e.trace.report.lines.items) e.explanations.items told

-- The text of explanations in memory, of so many failed attempts.
pub record IsTextOf (e : Explained) (out : List ℕ) (count : ℕ) : Type 0 where
  pub told : List FailedAttempt
  pub told_in : IsToldIn e told
  pub from : ProvenanceData
  pub times : from.times ≡ e.trace.times.items
  pub is_text : IsExplainedText from told out
  pub counted : count ≡ length told

-- The page of explanations in memory.
pub record IsPageOf (e : Explained) (paths : Paths) (page : List ℕ) : Type 0 where
  pub told : List FailedAttempt
  pub told_in : IsToldIn e told
  pub is_page : IsPage (from_paths paths e.trace.times.items) (data_of e.trace.report) told page
