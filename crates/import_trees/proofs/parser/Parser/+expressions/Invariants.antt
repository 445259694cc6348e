use Rattle.import_trees.proofs.parser.Parser.+expressions.Given as goal

abbrev pub decreases-expression : goal.decreases-expression
decreases-expression l = l.depth

abbrev pub decreases-conditional : goal.decreases-conditional
decreases-conditional l = l.depth

abbrev pub decreases-joined : goal.decreases-joined
decreases-joined l = l.depth

abbrev pub decreases-inside : goal.decreases-inside
decreases-inside l = l.depth

abbrev pub decreases-prefixed : goal.decreases-prefixed
decreases-prefixed l = l.depth

abbrev pub decreases-selected : goal.decreases-selected
decreases-selected l = l.depth

abbrev pub decreases-select : goal.decreases-select
decreases-select l = l.depth

abbrev pub decreases-primary : goal.decreases-primary
decreases-primary l = l.depth

abbrev pub decreases-braces : goal.decreases-braces
decreases-braces l = l.depth

abbrev pub decreases-list : goal.decreases-list
decreases-list l = l.depth

abbrev pub decreases-list_from : goal.decreases-list_from
decreases-list_from l = l.depth

abbrev pub decreases-member : goal.decreases-member
decreases-member l = l.depth

abbrev pub decreases-system : goal.decreases-system
decreases-system l = l.depth
