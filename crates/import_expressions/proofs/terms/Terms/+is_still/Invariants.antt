use Rattle.import_expressions.proofs.terms.Terms.+is_still.Given as goal

abbrev pub decreases-is_still : goal.decreases-is_still
decreases-is_still l = l.depth
