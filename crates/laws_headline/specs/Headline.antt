-- What a core publishes of an assertion (IEEE 1800-2017, 16.5, 16.12 and 16.14.6).
use Rattle.std.specs.Prelude.{◌≡◌, ℕ, ◌-◌, ◌<◌, List, length, Some, slice_get, slice_index}
use Rattle.std.specs.Prelude.{string_bytes}
use Rattle.std.specs.List.{flat_map, range_with_len}
use Rattle.signals.specs.declared.verdict.Verdict.{Verdict}
use Rattle.signals.specs.declared.verdict.Decided.{Decided}
use Rattle.expressions.specs.declared.name.Origin.TheVariants as origins
use Rattle.expressions.specs.Tables.{cell}
use Rattle.assertions.specs.declared.signal.Signal.{Signal}
use Rattle.assertions.specs.declared.assertion.Assertion.{Assertion}
use Rattle.assertions.specs.declared.suite.Suite.{Suite}
use Rattle.assertions.specs.Verdicts.{IsVerdictOver}
use Rattle.bytecode_programs.specs.Values.{ProgramData}
use Rattle.vcd_reader.specs.Variables.{variable_named}
use Rattle.vcd_reader.specs.Dump.{Contents}
use Rattle.cycle_window.specs.Ticks.{ticks_of, sample}
use Rattle.assertions.specs.Reads.{Reads}
use Rattle.machine_sections.specs.Laws.{fallen, open_starts, starts_of}
use Rattle.compiler.specs.Programs.{IsProgramOf}
use Rattle.compiler_laws.specs.ProgramLaws.{AreSuiteRows}
use Rattle.workers_core.specs.States.{MonitorState, BatchState, monitor_clock}
use Rattle.workers_core.specs.Values.{CoreValue}

-- the verdict of each attempt of an assertion over these rows: c is the tick at which it begins
abbrev pub AreVerdictsOf : Suite → List (List ℕ) → Assertion → (ℕ → Verdict) → Type 0
AreVerdictsOf suite rows a verdict =
    (c : ℕ) → c < length rows → IsVerdictOver suite rows a c (verdict c)

-- the attempts whose verdicts fall at clocks from the first up to the end, by clock, then start
abbrev pub fallen_between : (ℕ → Verdict) → ℕ → ℕ → ℕ → List Decided
fallen_between verdict count first end =
    flat_map (fallen verdict count) (range_with_len first (end - first))

-- Each batch of the monitor of that number has the verdicts that fall at the batch's clocks, and no
-- other; and after the last clock its live attempts are the open ones.
pub record PublishesVerdicts (v : CoreValue) (number count : ℕ) (verdict : ℕ → Verdict) :
    Type 0 where
  pub batches : (n : ℕ) (b : BatchState) → slice_get v.state.board n ≡ Some b →
      b.monitor ≡ number → b.decided ≡ fallen_between verdict count b.first b.end
  pub live : (m : MonitorState) → slice_get v.state.monitors number ≡ Some m →
      monitor_clock m ≡ count → starts_of m.state.standing.attempts ≡ open_starts verdict count

-- The path of the signal names a variable, of which the rows have at this place what is sampled at
-- each tick of the clock.
pub record IsSampledAt (c : Contents) (code : ℕ) (s : Signal) (rows : List (List ℕ)) (place : ℕ) :
    Type 0 where
  pub variable : ℕ
  pub named : variable_named c.variables (string_bytes s.path) ≡ Some variable
  pub each : (k : ℕ) → k < length rows →
      cell rows k place ≡ sample c (slice_index (ticks_of c code) k) variable

-- Rows of a suite's signals, one for each tick of the clock, which have the dump's values of each
-- signal that the assertion reads. What they have of other signals counts for nothing.
pub record ReadTheDump (c : Contents) (code : ℕ) (suite : Suite) (a : Assertion)
    (rows : List (List ℕ)) : Type 0 where
  pub ticks : length rows ≡ length (ticks_of c code)
  pub fit : AreSuiteRows suite rows
  pub columns : (place : ℕ) (s : Signal) → Reads suite a origins.Signal place →
      slice_get suite.names.items place ≡ Some s → IsSampledAt c code s rows place

-- Where the program of a number is that of an assertion of a suite: its monitor publishes the
-- assertion's verdicts over the whole trace.
abbrev pub DecidesAsMeant : CoreValue → Contents → Type 0
DecidesAsMeant v c =
    (number : ℕ) (p : ProgramData) → slice_get v.job.programs number ≡ Some p →
    (suite : Suite) (a : Assertion) → IsProgramOf suite a p →
    (rows : List (List ℕ)) → ReadTheDump c v.job.code suite a rows →
    (verdict : ℕ → Verdict) → AreVerdictsOf suite rows a verdict →
    PublishesVerdicts v number (length rows) verdict
