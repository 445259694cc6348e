-- What the verdicts on the attempts of an assertion come to.
use Rattle.std.specs.Prelude.{◌≡◌, ℕ, zero, suc, ◌≤◌, ◌==◌, List, [], ◌∷◌, ◌++◌, Bool, true, false}
use Rattle.std.specs.Prelude.{max, length, count_by, if◌then◌else◌}
use Rattle.signals.specs.declared.verdict.Verdict.{Verdict}
use Rattle.signals.specs.declared.verdict.Verdict.TheVariants.{Holds, Vacuous, Fails, Disabled}
use Rattle.signals.specs.declared.verdict.Verdict.TheVariants.{Open}
use Rattle.report_lines.specs.declared.line.Counts.{Counts}
use Rattle.report_lines.specs.declared.line.Failure.{Failure}

abbrev pub is_holds : Verdict → Bool
is_holds (Holds t) = true
is_holds (Vacuous t) = false
is_holds (Fails t) = false
is_holds (Disabled t) = false
is_holds Open = false

abbrev pub is_vacuous : Verdict → Bool
is_vacuous (Holds t) = false
is_vacuous (Vacuous t) = true
is_vacuous (Fails t) = false
is_vacuous (Disabled t) = false
is_vacuous Open = false

abbrev pub is_fails : Verdict → Bool
is_fails (Holds t) = false
is_fails (Vacuous t) = false
is_fails (Fails t) = true
is_fails (Disabled t) = false
is_fails Open = false

abbrev pub is_disabled : Verdict → Bool
is_disabled (Holds t) = false
is_disabled (Vacuous t) = false
is_disabled (Fails t) = false
is_disabled (Disabled t) = true
is_disabled Open = false

abbrev pub is_open : Verdict → Bool
is_open (Holds t) = false
is_open (Vacuous t) = false
is_open (Fails t) = false
is_open (Disabled t) = false
is_open Open = true

-- how many verdicts are of each kind
abbrev pub tally_of : List Verdict → Counts
tally_of vs = record {
  holds = count_by is_holds vs;
  vacuous = count_by is_vacuous vs;
  fails = count_by is_fails vs;
  disabled = count_by is_disabled vs;
  still_open = count_by is_open vs;
}

-- whether a verdict is a failure at the clock
abbrev pub fails_at : ℕ → Verdict → Bool
fails_at clock (Holds t) = false
fails_at clock (Vacuous t) = false
fails_at clock (Fails t) = t == clock
fails_at clock (Disabled t) = false
fails_at clock Open = false

-- the attempts that fail at the clock, in order of their start; the first verdict is that of the
-- attempt at start
unfoldable pub failing_at : ℕ → ℕ → List Verdict → List Failure
failing_at clock start [] = []
failing_at clock start (v ∷ vs) =
    if fails_at clock v
    then record { start = start; clock = clock } ∷ failing_at clock (suc start) vs
    else failing_at clock (suc start) vs

-- those that fail at one of so many clocks from the first one on, by clock, then start
unfoldable pub failing_in : ℕ → ℕ → List Verdict → List Failure
failing_in first zero vs = []
failing_in first (suc count) vs = failing_at first 0 vs ++ failing_in (suc first) count vs

-- the clock after a failure's; 0 after another verdict's
abbrev pub clock_behind : Verdict → ℕ
clock_behind (Holds t) = 0
clock_behind (Vacuous t) = 0
clock_behind (Fails t) = suc t
clock_behind (Disabled t) = 0
clock_behind Open = 0

-- the first clock that is after all failures
unfoldable pub end_of : List Verdict → ℕ
end_of [] = 0
end_of (v ∷ vs) = max (clock_behind v) (end_of vs)

-- all those that fail, by clock, then start
abbrev pub failing_of : List Verdict → List Failure
failing_of vs = failing_in 0 (end_of vs) vs

-- one more verdict, on the attempt that begins at start: those that fail before become those with
-- it
abbrev pub TakesIn : List Failure → List Failure → ℕ → Verdict → Type 0
TakesIn old new start v = (vs : List Verdict) (clocks : ℕ) → clock_behind v ≤ clocks
    → length vs ≡ start → old ≡ failing_in 0 clocks vs → new ≡ failing_in 0 clocks (vs ++ v ∷ [])
