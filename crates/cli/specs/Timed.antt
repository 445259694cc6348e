-- The times of clocks.
use Rattle.std.specs.Prelude.{◌≡◌, ℕ, ◌<◌, List, Option, Some, None, map, length, slice_get}
use Rattle.std.specs.Prelude.{slice_index, string_bytes}
use Rattle.assertions.specs.declared.suite.Suite.{Suite}
use Rattle.vcd_reader.specs.declared.step.Step.{Step}
use Rattle.vcd_reader.specs.Dump.{Contents}
use Rattle.cycle_window.specs.Bound.{IsClock}
use Rattle.cycle_window.specs.Ticks.{ticks_of}
use Rattle.cycle_window.specs.Times.{time_of_step}
use Rattle.cli.specs.Reported.{SaysSuite}

-- so many times: those of ticks at the steps of a dump
pub record AreTimesIn (steps : List Step) (ticks : List ℕ) (count : ℕ) (times : List ℕ) :
    Type 0 where
  pub many : length times ≡ count
  pub each : (k : ℕ) → k < count
      → slice_index times k ≡ time_of_step steps (slice_get ticks k)

-- the time of a step, 0 where there is none
abbrev pub time_of : List ℕ → Option ℕ → ℕ
time_of times None = 0
time_of times (Some step) = slice_index times step

-- the time of a tick of the clock with that code: that of the step of its edge
abbrev pub tick_time : Contents → ℕ → ℕ → ℕ
tick_time c code k = time_of (map (λ m. m.time) c.steps) (slice_get (ticks_of c code) k)

-- As many times as clocks: of each of so many ticks of the clock that the text names, the time.
pub record TellsTimes (c : Contents) (text : List ℕ) (clocks : ℕ) (times : List ℕ) :
    Type 0 where
  pub suite : Suite
  pub says : SaysSuite c text suite
  pub code : ℕ
  pub clock : IsClock c.variables (string_bytes suite.clock) code
  pub many : length times ≡ clocks
  pub each : (k : ℕ) → k < clocks → slice_index times k ≡ tick_time c code k
