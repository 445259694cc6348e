-- The batch of a program over a run of clocks.
use Rattle.std.specs.Prelude.{◌≡◌, ℕ, ◌-◌, ◌≤◌, List, [], ◌++◌, length, take, drop}
use Rattle.signals.specs.declared.verdict.Decided.{Decided}
use Rattle.bytecode_programs.specs.Values.{ProgramData}
use Rattle.machine_checked.specs.Outcomes.{Ran, done, trapped, and_then}
use Rattle.machine_checked.specs.Machine.{State, Outcome, opening, clocks}
use Rattle.machine_checked.specs.Runs.{outcome_behind, run_from}

-- the rows of the clocks a up to b
abbrev pub rows_between : List (List ℕ) → ℕ → ℕ → List (List ℕ)
rows_between rows a b = take (b - a) (drop a rows)

-- The clocks a up to b: from the state that the checked machine has after the first a rows, over
-- the rows between.
abbrev pub run_between : ProgramData → List (List ℕ) → ℕ → ℕ → Ran Outcome
run_between p rows a b =
    and_then (clocks p (opening p) (take a rows))
    (λ s left. run_from p s (rows_between rows a b))

-- without a trap, what was decided, by clock, then start
abbrev pub decided_in : Ran Outcome → List Decided
decided_in (done o left) = o.decided
decided_in (trapped t) = []

-- the batch of the clocks a up to b
abbrev pub batch_of : ProgramData → List (List ℕ) → ℕ → ℕ → List Decided
batch_of p rows a b = decided_in (run_between p rows a b)

-- The program met no trap over the clocks a up to b, decided these, and stands in this state.
pub record HasCome (p : ProgramData) (rows : List (List ℕ)) (a b : ℕ) (decided : List Decided)
    (state : State) : Type 0 where
  pub ran : run_between p rows a b ≡ done (record { state = state; decided = decided }) 0

-- After a batch comes that of the clocks from its end on.
abbrev pub BatchesJoin : Type 0
BatchesJoin =
    (p : ProgramData) (rows : List (List ℕ)) (a b c : ℕ) (s t : State) (xs ys : List Decided) →
    a ≤ b → b ≤ c → HasCome p rows a b xs s → HasCome p rows b c ys t →
    HasCome p rows a c (xs ++ ys) t

-- The state is that of the checked machine's clocks over the first b rows.
abbrev pub EndsInState : Type 0
EndsInState =
    (p : ProgramData) (rows : List (List ℕ)) (a b : ℕ) (s : State) (xs : List Decided) →
    a ≤ b → HasCome p rows a b xs s → clocks p (opening p) (take b rows) ≡ done s 0
