-- The verdicts on all attempts of assertions.
use Rattle.std.specs.Prelude.{◌≡◌, ℕ, ◌<◌, List, length, slice_index_or, string_bytes}
use Rattle.std.specs.List.{AllZip}
use Rattle.signals.specs.declared.verdict.Verdict.{Verdict}
use Rattle.signals.specs.declared.verdict.Verdict.TheVariants as outcome
use Rattle.assertions.specs.declared.assertion.Assertion.{Assertion}
use Rattle.assertions.specs.declared.suite.Suite.{Suite}
use Rattle.assertions.specs.Verdicts.{IsVerdictOn}
use Rattle.expressions.specs.declared.expr.Expr.{Expr}
use Rattle.expressions.specs.Counters.{counter_samples}
use Rattle.expressions.specs.Tables.{column}
use Rattle.expressions.specs.Terms.{Samples}
use Rattle.report_lines.specs.Lines.{LineData, line_data_of}

-- One verdict on an assertion for each tick, in order: that of the attempt that begins there, over
-- so many ticks, with the suite's expressions and what they read.
pub record AreVerdictsOn
    (booleans : List Expr) (read : Samples) (ticks : ℕ) (a : Assertion) (verdicts : List Verdict) :
    Type 0 where
  pub long : length verdicts ≡ ticks
  pub each : (tick : ℕ) → tick < ticks
      → IsVerdictOn booleans read ticks a tick (slice_index_or verdicts tick outcome.Open)

-- An assertion's line: its name, and its verdicts.
pub record IsLine (booleans : List Expr) (read : Samples) (ticks : ℕ) (a : Assertion)
    (line : LineData) : Type 0 where
  pub verdicts : List Verdict
  pub judged : AreVerdictsOn booleans read ticks a verdicts
  pub is : line ≡ line_data_of (string_bytes a.name) verdicts

-- a line for each assertion, in their order
abbrev pub AreLines : List Expr → Samples → ℕ → List Assertion → List LineData → Type 0
AreLines booleans read ticks = AllZip (IsLine booleans read ticks)

-- what a suite's expressions read over rows of its signals: these, and what its counters count
abbrev pub read_over : Suite → List (List ℕ) → Samples
read_over suite signals = counter_samples (column signals) suite.counters.items

-- the verdicts on an assertion of the suite over these rows
abbrev pub AreVerdictsOver : Suite → List (List ℕ) → Assertion → List Verdict → Type 0
AreVerdictsOver suite signals =
    AreVerdictsOn suite.booleans.items (read_over suite signals) (length signals)

abbrev pub IsJudgedLine : Suite → List (List ℕ) → Assertion → LineData → Type 0
IsJudgedLine suite signals = IsLine suite.booleans.items (read_over suite signals) (length signals)

abbrev pub AreLinesOver : Suite → List (List ℕ) → List Assertion → List LineData → Type 0
AreLinesOver suite signals =
    AreLines suite.booleans.items (read_over suite signals) (length signals)
