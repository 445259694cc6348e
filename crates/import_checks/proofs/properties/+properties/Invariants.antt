use Rattle.import_checks.proofs.properties.+properties.Given as goal

abbrev pub decreases-is_property : goal.decreases-is_property
decreases-is_property l = l.depth

abbrev pub decreases-is_joined : goal.decreases-is_joined
decreases-is_joined l = l.depth

abbrev pub decreases-is_implied : goal.decreases-is_implied
decreases-is_implied l = l.depth

abbrev pub decreases-is_next_implied : goal.decreases-is_next_implied
decreases-is_next_implied l = l.depth

abbrev pub decreases-is_followed : goal.decreases-is_followed
decreases-is_followed l = l.depth

abbrev pub decreases-is_next_followed : goal.decreases-is_next_followed
decreases-is_next_followed l = l.depth

abbrev pub decreases-is_if : goal.decreases-is_if
decreases-is_if l = l.depth

abbrev pub decreases-is_if_else : goal.decreases-is_if_else
decreases-is_if_else l = l.depth

abbrev pub decreases-is_pair : goal.decreases-is_pair
decreases-is_pair l = l.depth

abbrev pub decreases-is_not : goal.decreases-is_not
decreases-is_not l = l.depth

abbrev pub decreases-is_next : goal.decreases-is_next
decreases-is_next l = l.depth

abbrev pub decreases-is_always : goal.decreases-is_always
decreases-is_always l = l.depth

abbrev pub decreases-is_eventually : goal.decreases-is_eventually
decreases-is_eventually l = l.depth

abbrev pub decreases-is_case : goal.decreases-is_case
decreases-is_case l = l.depth

abbrev pub decreases-is_rest : goal.decreases-is_rest
decreases-is_rest l = l.depth

abbrev pub decreases-peeled : goal.decreases-peeled
decreases-peeled l = l.depth
