-- Laws of what a program decides over rows.
use Rattle.std.specs.Prelude.{◌≡◌, ℕ, List, ◌++◌}
use Rattle.bytecode_programs.specs.Values.{ProgramData}
use Rattle.machine_checked.specs.Outcomes.{done, and_then}
use Rattle.machine_checked.specs.Machine.{State, clocks}
use Rattle.machine_checked.specs.Runs.{outcome_behind, run_from}

-- Rows that are cut anywhere decide the same: what the first decide, and after that what the rest
-- decide from the state that those leave. So the size of windows changes nothing.
abbrev pub CutsAnywhere : Type 0
CutsAnywhere =
    (p : ProgramData) (s : State) (xs ys : List (List ℕ)) →
    run_from p s (xs ++ ys)
    ≡ and_then (run_from p s xs) (λ first left.
    and_then (run_from p first.state ys)
    (λ rest left. done (outcome_behind first.decided rest) left))

-- The state after the rows, and their traps, are those of the checked machine's clocks.
abbrev pub EndsAsClocks : Type 0
EndsAsClocks =
    (p : ProgramData) (s : State) (rows : List (List ℕ)) →
    clocks p s rows ≡ and_then (run_from p s rows) (λ o left. done o.state left)
