-- What a report says of a program.
use Rattle.std.specs.Prelude.{◌≡◌, ℕ, ◌+◌, List, ◌++◌, Option, Some, None, map, filter_map}
use Rattle.signals.specs.declared.verdict.Verdict.{Verdict}
use Rattle.signals.specs.declared.verdict.Verdict.TheVariants as outcome
use Rattle.signals.specs.declared.verdict.Decided.{Decided}
use Rattle.bytecode_programs.specs.Values.{ProgramData}
use Rattle.machine_checked.specs.Machine.{State}
use Rattle.machine_checked.specs.Runs.{open_ones}
use Rattle.report_lines.specs.declared.line.Counts.{Counts}
use Rattle.report_lines.specs.declared.line.Failure.{Failure}
use Rattle.report_lines.specs.Tallies.{tally_of}
use Rattle.report_lines.specs.Lines.{LineData}
use Rattle.machine_checked.specs.Runs.{Decides}

-- an attempt that failed, with the clock at which it did
abbrev pub failure_from : ℕ → Verdict → Option Failure
failure_from start (outcome.Fails t) = Some (record { start = start; clock = t })
failure_from start (outcome.Holds t) = None
failure_from start (outcome.Vacuous t) = None
failure_from start (outcome.Disabled t) = None
failure_from start outcome.Open = None

abbrev pub failure_of : Decided → Option Failure
failure_of d = failure_from d.start d.verdict

-- The line of a program with that name: how many of these attempts came to each verdict, and those
-- that failed, in their order.
abbrev pub line_over : List ℕ → List Decided → LineData
line_over name attempts = record {
  name = name;
  counts = tally_of (map (λ d. d.verdict) attempts);
  fails = filter_map failure_of attempts;
}

-- The line of a program over rows: what it decides there, by clock, then start, and after that the
-- attempts that are still live, as open.
pub record IsLineOver (p : ProgramData) (rows : List (List ℕ)) (line : LineData) : Type 0 where
  pub decided : List Decided
  pub last : State
  pub ran : Decides p rows decided last
  pub is : line ≡ line_over p.header.name (decided ++ open_ones last.standing.attempts)

-- the attempts of all verdicts
abbrev pub attempts_of : Counts → ℕ
attempts_of c = c.holds + c.vacuous + c.fails + c.disabled + c.still_open
