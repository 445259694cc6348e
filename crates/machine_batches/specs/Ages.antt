-- Attempts that come to the same at the same age.
use Rattle.std.specs.Prelude.{ℕ, ◌+◌}
use Rattle.signals.specs.declared.verdict.Verdict.{Verdict}
use Rattle.signals.specs.declared.verdict.Verdict.TheVariants as outcome
use Rattle.signals.specs.declared.verdict.Decided.{Decided}

-- the clock at which a verdict is known; 0 of an open one
abbrev pub deciding_clock : Verdict → ℕ
deciding_clock (outcome.Holds t) = t
deciding_clock (outcome.Vacuous t) = t
deciding_clock (outcome.Fails t) = t
deciding_clock (outcome.Disabled t) = t
deciding_clock outcome.Open = 0

-- the verdict so many clocks later
abbrev pub verdict_moved : ℕ → Verdict → Verdict
verdict_moved n (outcome.Holds t) = outcome.Holds (t + n)
verdict_moved n (outcome.Vacuous t) = outcome.Vacuous (t + n)
verdict_moved n (outcome.Fails t) = outcome.Fails (t + n)
verdict_moved n (outcome.Disabled t) = outcome.Disabled (t + n)
verdict_moved n outcome.Open = outcome.Open

-- the attempt that began so many clocks later, and came to the same at the same age
abbrev pub nth : Decided → ℕ → Decided
nth d n = record { start = d.start + n; verdict = verdict_moved n d.verdict }
