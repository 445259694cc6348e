use Rattle.import_checks.proofs.truths.+truth_at.Given as goal

abbrev pub decreases-truth_at : goal.decreases-truth_at
decreases-truth_at l = l.depth
