-- The report on a suite over a dump.
use Rattle.std.specs.Prelude.{◌≡◌, ℕ, List, length, map, Some, string_bytes}
use Rattle.assertions.specs.declared.suite.Suite.{Suite}
use Rattle.vcd_reader.specs.Variables.{variable_named, size_of, code_number}
use Rattle.vcd_reader.specs.Dump.{Contents}
use Rattle.cycle_window.specs.Ticks.{ticks_of, row_of}
use Rattle.report_lines.specs.Lines.{LineData, ReportData, report_of}
use Rattle.report_suites.specs.Judged.{AreLinesOver}

-- The variables of the dump that a suite's paths name: a clock of one bit, and one for each signal.
pub record IsBound (c : Contents) (suite : Suite) (clock : ℕ) (signals : List ℕ) : Type 0 where
  pub clock_named : variable_named c.variables (string_bytes suite.clock) ≡ Some clock
  pub clock_bit : size_of c.variables clock ≡ 1
  pub signals_named : map (λ s. variable_named c.variables (string_bytes s.path)) suite.names.items
      ≡ map (λ v. Some v) signals

-- the rows of the signals at the clock's ticks
abbrev pub rows_of : Contents → ℕ → List ℕ → List (List ℕ)
rows_of c clock signals = map (row_of c signals) (ticks_of c (code_number c.variables clock))

-- The report on a suite over its rows: a line for each assertion, with the verdicts of the
-- definition on the attempts at all ticks, over the rows and what the suite's counters count over
-- them.
pub record OverRows (suite : Suite) (rows : List (List ℕ)) (report : ReportData) : Type 0 where
  pub lines : List LineData
  pub judged : AreLinesOver suite rows suite.assertions.items lines
  pub is : report ≡ report_of (length rows) lines

-- The report on a suite over the contents of a dump.
pub record Reports (c : Contents) (suite : Suite) (report : ReportData) : Type 0 where
  pub clock : ℕ
  pub signals : List ℕ
  pub bound : IsBound c suite clock signals
  pub over : OverRows suite (rows_of c clock signals) report
