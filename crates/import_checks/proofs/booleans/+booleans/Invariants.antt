use Rattle.import_checks.proofs.booleans.+booleans.Given as goal

abbrev pub decreases-is_boolean : goal.decreases-is_boolean
decreases-is_boolean l = l.depth

abbrev pub decreases-is_join : goal.decreases-is_join
decreases-is_join l = l.depth
