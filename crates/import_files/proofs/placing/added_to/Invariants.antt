use Rattle.std.proofs.Common.{◌≡◌, ◌++◌, drop}
use Rattle.import_files.specs.Placed.{added_by}
use Rattle.import_files.proofs.placing.added_to.Given as goal

-- what is added so far, and then by what follows
abbrev pub invariant-loop-outcome : goal.invariant-loop-outcome
invariant-loop-outcome l =
    l.all.items ++ added_by l.at (drop l.outcome-index l.outcomes) ≡ added_by 0 l.outcomes
