-- The report on a suite by programs.
use Rattle.std.proofs.Common.{
  ◌≡◌,
  ◌∙◌,
  ℕ,
  Bool,
  List,
  [],
  ◌∷◌,
  Option,
  Some,
  None,
  length,
  cond,
  ap,
  sym,
  subst,
}
use Rattle.std.proofs.lemmas.Bool.{eq-eqb}
use Rattle.std.specs.Prelude.{string_bytes}
use Rattle.std.specs.List.{AllByRecursion, AllZip}
use Rattle.std.proofs.lemmas.List.{length-map}
use Rattle.assertions.specs.declared.assertion.Assertion.{Assertion}
use Rattle.assertions.specs.declared.signal.Signal.{Signal}
use Rattle.assertions.specs.declared.suite.Suite.{Suite}
use Rattle.parser_grammar.specs.Trees.{ItemForm}
use Rattle.compiler_laws.specs.SuiteLaws.{SuitesFit}
use Rattle.suite_over_dump.specs.Dumps.{width_named}
use Rattle.vcd_reader.specs.declared.dump.Dump.{Dump}
use Rattle.vcd_reader.specs.Variables.{Declared, variable_named, size_of}
use Rattle.vcd_reader.specs.Held.{HoldsContents, variables_of}
use Rattle.cycle_window.specs.Bound.{Misfit, misfit, HasClock, IsClock}
use Rattle.vcd_reader.specs.Dump.{Contents}
use Rattle.cycle_window.specs.Ticks.{ticks_of, row_of}
use Rattle.report_lines.specs.Lines.{LineData, ReportData, report_of}
use Rattle.compiler.specs.Conditions.{FitsSuite}
use Rattle.report_programs.specs.Lines.{IsWatched, AreVariables, rows_at, IsLineOf, IsReportOf}
use Rattle.report_suites.specs.Named.{AreNamed}
use Rattle.report_suites.specs.Judged.{AreLinesOver}
use Rattle.report_suites.specs.Reported.{OverRows, Reports}
use Rattle.cli.specs.Reported.{HasItems, IsTyped}
use Rattle.report_suites.proofs.ReportLaws.{same_places, have_places, reports}

-- the lines of programs are lines of verdicts
lines_kept : (suite : Suite) (rows : List (List ℕ)) (all : List Assertion) (ls : List LineData)
    → AllZip (IsLineOf suite rows) all ls → AreLinesOver suite rows all ls
lines_kept suite rows [] [] h = tt
lines_kept suite rows [] (l ∷ ls) h = absurd h
lines_kept suite rows (a ∷ all) [] h = absurd h
lines_kept suite rows (a ∷ all) (l ∷ ls) h = (
  record {
    verdicts = h.0.verdicts;
    judged = record { long = h.0.judged.long; each = h.0.judged.each };
    is = h.0.is;
  },
  lines_kept suite rows all ls h.1,
)

pub over_rows :
    (c : Contents) (suite : Suite) (signals : List ℕ) (code : ℕ) (ticks : List ℕ) (n : ℕ)
    (ls : List LineData) (r : ReportData) → ticks ≡ ticks_of c code → n ≡ length ticks →
    r ≡ report_of n ls →
    AllZip (IsLineOf suite (rows_at c signals code)) suite.assertions.items ls →
    OverRows suite (rows_at c signals code) r
over_rows c suite signals code ticks n ls r are many is h = record {
  lines = ls;
  judged = lines_kept suite (rows_at c signals code) suite.assertions.items ls h;
  is = is ∙ ap (λ (k : ℕ). report_of k ls)
      (many ∙ ap length are ∙ sym (length-map (ticks_of c code) (row_of c signals)));
}

-- the report by several workers
pub team_rows : (suite : Suite) (rows : List (List ℕ)) (r : ReportData) → IsReportOf suite rows r
    → OverRows suite rows r
team_rows suite rows r of = record {
  lines = r.lines;
  judged = lines_kept suite rows suite.assertions.items r.lines of.lines;
  is = of.is;
}

-- a suite's signals are watched
pub all_watched : (vs : List Declared) (ss : List Signal) → AreNamed vs ss
    → AllByRecursion (IsWatched vs) ss
all_watched vs [] h = tt
all_watched vs (s ∷ ss) h = (h.0, all_watched vs ss h.1)

-- the clock of a suite is there
pub has_clock : (vs : List Declared) (path : List ℕ) (code : ℕ) → IsClock vs path code
    → HasClock vs path
has_clock vs path code (v, named, bit, is) =
    ap (λ (o : Option ℕ). misfit vs o 1) named
    ∙ ap (λ (b : Bool). cond b None (Some Misfit.OtherWidth)) (eq-eqb (size_of vs v) 1 bit)

-- a clock of a dump, under the names of what it holds and of the suite
pub clock_of :
    (d : Dump) (c : Contents) (path suite_path : List ℕ) (Why : List Declared → List ℕ → Type 0)
    → HoldsContents d c → path ≡ suite_path → Why (variables_of d) path
    → Why c.variables suite_path
clock_of d c path suite_path Why holds same h =
    subst (λ (vs : List Declared). Why vs suite_path) holds.variables
    (subst (λ (p : List ℕ). Why (variables_of d) p) same h)

-- the report over the rows of the variables that a suite's paths name
pub reports_by : (c : Contents) (suite : Suite) (code : ℕ) (r : ReportData) →
    IsClock c.variables (string_bytes suite.clock) code → AreNamed c.variables suite.names.items →
    ((signals : List ℕ) → AreVariables c suite signals →
    OverRows suite (rows_at c signals code) r) → Reports c suite r
reports_by c suite code r clock named over =
    let have = have_places c.variables suite.names.items named in
    reports c suite code (rows_at c have.places code) r clock have
    (λ signals are.
    ap (λ (ps : List ℕ). rows_at c ps code)
    (same_places have.places signals (sym have.are ∙ are)))
    (over have.places have.are)

-- the assertions of a text's suite are fit
pub all_fit : SuitesFit → (c : Contents) (text : List ℕ) (items : List ItemForm) (suite : Suite)
    → HasItems text items → IsTyped c items suite
    → AllByRecursion (FitsSuite suite) suite.assertions.items
all_fit law c text items suite has typed =
    law (width_named c.variables) text suite
    (record {
      tokens = has.tokens;
      items = items;
      cut = has.cut;
      spelled = has.spelled;
      faultless = typed.faultless;
      says = typed.says;
    })
