use Rattle.import_expressions.proofs.terms.Terms.+widths.Given as goal

abbrev pub decreases-width : goal.decreases-width
decreases-width l = l.depth

abbrev pub decreases-total : goal.decreases-total
decreases-total l = l.depth
