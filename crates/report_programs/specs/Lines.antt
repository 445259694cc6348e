-- The lines of assertions over the rows of a suite's signals.
use Rattle.std.specs.Prelude.{◌≡◌, ℕ, List, length, map, Some, string_bytes}
use Rattle.std.specs.List.{AllZip}
use Rattle.std.specs.Option.{option_map}
use Rattle.signals.specs.declared.verdict.Verdict.{Verdict}
use Rattle.assertions.specs.declared.signal.Signal.{Signal}
use Rattle.assertions.specs.declared.assertion.Assertion.{Assertion}
use Rattle.assertions.specs.declared.suite.Suite.{Suite}
use Rattle.vcd_reader.specs.Variables.{Declared, variable_named, size_of}
use Rattle.vcd_reader.specs.Dump.{Contents}
use Rattle.cycle_window.specs.Ticks.{ticks_of, row_of}
use Rattle.report_lines.specs.Lines.{LineData, ReportData, line_data_of, report_of}
use Rattle.compiler_laws.specs.ProgramLaws.{AreVerdictsOver}

-- The path of a signal names a variable of the signal's width.
abbrev pub IsWatched : List Declared → Signal → Type 0
IsWatched vs s = option_map (size_of vs) (variable_named vs (string_bytes s.path)) ≡ Some s.width

-- These are the variables that the paths of the suite's signals name.
abbrev pub AreVariables : Contents → Suite → List ℕ → Type 0
AreVariables c suite signals =
    map (λ s. variable_named c.variables (string_bytes s.path)) suite.names.items
    ≡ map (λ v. Some v) signals

-- the rows of variables at the ticks of the clock with that code
abbrev pub rows_at : Contents → List ℕ → ℕ → List (List ℕ)
rows_at c signals code = map (row_of c signals) (ticks_of c code)

-- An assertion's line over rows of its suite's signals: its name, and the verdicts of the
-- definition.
pub record IsLineOf (suite : Suite) (rows : List (List ℕ)) (a : Assertion) (line : LineData) :
    Type 0 where
  pub verdicts : List Verdict
  pub judged : AreVerdictsOver suite rows a verdicts
  pub is : line ≡ line_data_of (string_bytes a.name) verdicts

-- A report over rows of a suite's signals: the lines of its assertions, and the sums of them.
pub record IsReportOf (suite : Suite) (rows : List (List ℕ)) (report : ReportData) : Type 0 where
  pub lines : AllZip (IsLineOf suite rows) suite.assertions.items report.lines
  pub is : report ≡ report_of (length rows) report.lines
