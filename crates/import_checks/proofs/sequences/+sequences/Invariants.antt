use Rattle.import_checks.proofs.sequences.+sequences.Given as goal

abbrev pub decreases-is_sequence : goal.decreases-is_sequence
decreases-is_sequence l = l.depth

abbrev pub decreases-is_held : goal.decreases-is_held
decreases-is_held l = l.depth

abbrev pub decreases-is_pair : goal.decreases-is_pair
decreases-is_pair l = l.depth

abbrev pub decreases-is_contained : goal.decreases-is_contained
decreases-is_contained l = l.depth

abbrev pub decreases-is_first : goal.decreases-is_first
decreases-is_first l = l.depth

abbrev pub decreases-is_first_delay : goal.decreases-is_first_delay
decreases-is_first_delay l = l.depth
