use Rattle.import_checks.proofs.halves.+are_halves.Given as goal

abbrev pub decreases-are_halves : goal.decreases-are_halves
decreases-are_halves l = l.depth
