use Rattle.std.proofs.Common.{◌≡◌, ◌++◌, drop}
use Rattle.import_files.specs.Placed.{placed_text}
use Rattle.import_files.proofs.placing.placed_bytes.Given as goal

-- what is placed so far, and then of what follows
abbrev pub invariant-loop-outcome : goal.invariant-loop-outcome
invariant-loop-outcome l =
    l.out.items ++ placed_text l.blanks l.at (drop l.outcome-index l.outcomes)
    ≡ placed_text l.blanks 0 l.outcomes
