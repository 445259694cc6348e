-- What the program of an assertion decides.
use Rattle.std.specs.Prelude.{◌≡◌, ℕ, ◌^◌, ◌<◌, List, length, map, Some, slice_get, slice_index}
use Rattle.std.specs.Prelude.{string_bytes}
use Rattle.signals.specs.declared.verdict.Verdict.{Verdict}
use Rattle.expressions.specs.Tables.{cell, column}
use Rattle.expressions.specs.Counters.{counter_samples}
use Rattle.assertions.specs.declared.signal.Signal.{Signal}
use Rattle.assertions.specs.declared.assertion.Assertion.{Assertion}
use Rattle.assertions.specs.declared.suite.Suite.{Suite}
use Rattle.assertions.specs.Shapes.{shape, value_in, off_in}
use Rattle.assertions.specs.Verdicts.{antecedent_of}
use Rattle.bytecode_programs.specs.Values.{ProgramData}
use Rattle.verifier.specs.Programs.{IsAccepted}
use Rattle.report_lines.specs.Lines.{line_data_of}
use Rattle.machine_batches.specs.Lines.{IsLineOver}
use Rattle.compiler_laws.specs.LineLaws.{AreVerdicts}
use Rattle.compiler.specs.Programs.{IsProgramOf}

-- rows of the suite's signals, whose values have the signals' widths
abbrev pub AreSuiteRows : Suite → List (List ℕ) → Type 0
AreSuiteRows suite rows =
    (k place : ℕ) (s : Signal) → slice_get suite.names.items place ≡ Some s →
    cell rows k place < 2 ^ s.width

-- a row of the signals at some places
abbrev pub picked_row : List ℕ → List ℕ → List ℕ
picked_row places row = map (λ place. slice_index row place) places

-- the verdicts on an assertion of the suite over these rows
abbrev pub AreVerdictsOver : Suite → List (List ℕ) → Assertion → List Verdict → Type 0
AreVerdictsOver suite rows a =
    let read = counter_samples (column rows) suite.counters.items in
    AreVerdicts
    (value_in suite.booleans.items a.booleans.items read)
    (off_in suite.booleans.items a.booleans.items read a.disabling)
    (antecedent_of a)
    (shape a.consequent)
    (length rows)

-- The line of an accepted program of an assertion, over the rows of its signals, is that of the
-- assertion's verdicts.
abbrev pub ProgramsDecide : Type 0
ProgramsDecide =
    (suite : Suite) (a : Assertion) (p : ProgramData) → IsAccepted p →
    (of : IsProgramOf suite a p) → (rows : List (List ℕ)) → AreSuiteRows suite rows →
    (verdicts : List Verdict) → AreVerdictsOver suite rows a verdicts →
    IsLineOver p (map (picked_row of.layout.signals) rows)
    (line_data_of (string_bytes a.name) verdicts)
