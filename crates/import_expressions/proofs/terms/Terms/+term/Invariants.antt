use Rattle.import_expressions.proofs.terms.Terms.+term.Given as goal

abbrev pub decreases-term : goal.decreases-term
decreases-term l = l.depth
