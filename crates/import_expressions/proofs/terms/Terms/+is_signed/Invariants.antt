use Rattle.import_expressions.proofs.terms.Terms.+is_signed.Given as goal

abbrev pub decreases-is_signed : goal.decreases-is_signed
decreases-is_signed l = l.depth
