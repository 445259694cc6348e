use Rattle.import_expressions.proofs.terms.Terms.+ask_bits.Given as goal

abbrev pub decreases-ask_bits : goal.decreases-ask_bits
decreases-ask_bits l = l.depth
