-- Clocks of the checked machine after their sample code, one after another.
use Rattle.std.specs.Prelude.{ℕ, Bool, List, [], ◌∷◌}
use Rattle.signals.specs.declared.verdict.Decided.{Decided}
use Rattle.bytecode_programs.specs.Values.{ProgramData}
use Rattle.machine_checked.specs.Outcomes.{Ran, done, and_then}
use Rattle.machine_checked.specs.Clocks.{Standing, clock_after}

-- What the sample code of a clock gave: the atoms, and the cost that it left of the budget.
pub record Sampled : Type 0 where
  pub atoms : List Bool
  pub left : ℕ

-- What stands after a run, and what each of its clocks decided.
pub record Clocked : Type 0 where
  pub standing : Standing
  pub batches : List (List Decided)

abbrev pub behind_batch : List Decided → Clocked → Clocked
behind_batch decided r = record { standing = r.standing; batches = decided ∷ r.batches }

abbrev pub clocks_after : ProgramData → Standing → List Sampled → Ran Clocked
clocks_after p s [] = done (record { standing = s; batches = [] }) 0
clocks_after p s (c ∷ later) =
    and_then (clock_after p s c.atoms c.left) (λ first left.
    and_then (clocks_after p first.state later) (λ rest left.
    done (behind_batch first.decided rest) left))
