-- The steps of a round in which each monitor is run by some worker.
use Rattle.std.specs.Prelude.{ℕ, ◌+◌, ◌==◌, if◌then◌else◌, List, [], ◌∷◌, ◌++◌, Option, Some}
use Rattle.std.specs.Prelude.{map, option_and_then}
use Rattle.std.specs.List.{range_with_len}
use Rattle.workers_core.specs.declared.step.Step.{Step}
use Rattle.workers_core.specs.declared.step.Step.TheVariants as steps
use Rattle.workers_core.specs.States.{CoreState, Setting, next}

-- the state after steps, where each is allowed in its turn
abbrev pub state_after : Setting → CoreState → List Step → Option CoreState
state_after g s [] = Some s
state_after g s (step ∷ rest) = option_and_then (λ t. state_after g t rest) (next g s step)

-- The owners of a round's monitors are the workers that run them, monitor by monitor. Each owner in
-- turn claims the monitor that waits in front, runs it over k clocks, and publishes its batch.
abbrev pub turns : List ℕ → ℕ → List Step
turns [] k = []
turns (w ∷ owners) k =
    steps.Claim w ∷ steps.Advance w k ∷ steps.Publish w ∷ turns owners k

-- a round's steps before its end
abbrev pub working_steps : List ℕ → ℕ → List Step
working_steps owners k = steps.Slide ∷ turns owners k

abbrev pub round_steps : List ℕ → ℕ → List Step
round_steps owners k = working_steps owners k ++ steps.Gather ∷ []

-- of owners of the monitors from the number low on, the numbers of those that w owns
abbrev pub owned_from : ℕ → List ℕ → ℕ → List ℕ
owned_from low [] w = []
owned_from low (v ∷ owners) w =
    if v == w then low ∷ owned_from (low + 1) owners w else owned_from (low + 1) owners w

-- the monitors that w owns, in source order
abbrev pub owned_by : List ℕ → ℕ → List ℕ
owned_by owners w = owned_from 0 owners w

-- what each of so many workers owns, worker by worker
abbrev pub owned_lists : List ℕ → ℕ → List (List ℕ)
owned_lists owners crew = map (owned_by owners) (range_with_len 0 crew)
