use Rattle.import_trees.proofs.parser.Parser.+forms.Given as goal

abbrev pub decreases-form : goal.decreases-form
decreases-form l = l.depth

abbrev pub decreases-front : goal.decreases-front
decreases-front l = l.depth

abbrev pub decreases-negated : goal.decreases-negated
decreases-negated l = l.depth

abbrev pub decreases-next : goal.decreases-next
decreases-next l = l.depth

abbrev pub decreases-strength : goal.decreases-strength
decreases-strength l = l.depth

abbrev pub decreases-always : goal.decreases-always
decreases-always l = l.depth

abbrev pub decreases-eventually : goal.decreases-eventually
decreases-eventually l = l.depth

abbrev pub decreases-choice : goal.decreases-choice
decreases-choice l = l.depth

abbrev pub decreases-case : goal.decreases-case
decreases-case l = l.depth

abbrev pub decreases-case_item : goal.decreases-case_item
decreases-case_item l = l.depth

abbrev pub decreases-chain : goal.decreases-chain
decreases-chain l = l.depth

abbrev pub decreases-repeated : goal.decreases-repeated
decreases-repeated l = l.depth

abbrev pub decreases-part_of_form : goal.decreases-part_of_form
decreases-part_of_form l = l.depth

abbrev pub decreases-first_match : goal.decreases-first_match
decreases-first_match l = l.depth

abbrev pub decreases-bracketed : goal.decreases-bracketed
decreases-bracketed l = l.depth
