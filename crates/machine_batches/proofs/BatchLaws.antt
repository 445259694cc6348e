-- What clocks decide, one clock after another.
use Rattle.std.proofs.Common.{ℕ, List}
use Rattle.signals.specs.declared.verdict.Decided.{Decided}
use Rattle.bytecode_programs.specs.Values.{ProgramData}
use Rattle.machine_checked.specs.Outcomes.{Ran, done, and_then}
use Rattle.machine_checked.specs.Machine.{Outcome}
use Rattle.machine_checked.specs.Runs.{outcome_behind, run_from}

-- what a clock decides goes before what the later ones do
abbrev pub joined : List Decided → Outcome → ℕ → Ran Outcome
joined before rest left = done (outcome_behind before rest) left

abbrev pub later : ProgramData → List (List ℕ) → Outcome → ℕ → Ran Outcome
later p rows first left = and_then (run_from p first.state rows) (joined first.decided)
