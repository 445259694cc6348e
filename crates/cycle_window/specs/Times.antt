-- The times of ticks.
use Rattle.std.specs.Prelude.{ℕ, List, Option, Some, None, slice_get}
use Rattle.vcd_reader.specs.declared.step.Step.{Step}

abbrev pub time_or_zero : Option Step → ℕ
time_or_zero None = 0
time_or_zero (Some step) = step.time

-- the time of a step of a dump, 0 where there is none
abbrev pub time_of_step : List Step → Option ℕ → ℕ
time_of_step steps None = 0
time_of_step steps (Some step) = time_or_zero (slice_get steps step)
