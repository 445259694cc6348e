use Rattle.import_lowering.proofs.lowering.Lowering.+sequences.Given as goal

abbrev pub decreases-chain : goal.decreases-chain
decreases-chain l = l.depth

abbrev pub decreases-plain_chain : goal.decreases-plain_chain
decreases-plain_chain l = l.depth

abbrev pub decreases-unrolled : goal.decreases-unrolled
decreases-unrolled l = l.depth

abbrev pub decreases-linked : goal.decreases-linked
decreases-linked l = l.depth

abbrev pub decreases-after : goal.decreases-after
decreases-after l = l.depth

abbrev pub decreases-link : goal.decreases-link
decreases-link l = l.depth

abbrev pub decreases-sequence : goal.decreases-sequence
decreases-sequence l = l.depth

abbrev pub decreases-joined_sequence : goal.decreases-joined_sequence
decreases-joined_sequence l = l.depth

abbrev pub decreases-other_sequence : goal.decreases-other_sequence
decreases-other_sequence l = l.depth

abbrev pub decreases-found : goal.decreases-found
decreases-found l = l.depth

abbrev pub decreases-condition_elsewhere : goal.decreases-condition_elsewhere
decreases-condition_elsewhere l = l.depth

abbrev pub decreases-repetition : goal.decreases-repetition
decreases-repetition l = l.depth

abbrev pub decreases-within : goal.decreases-within
decreases-within l = l.depth

abbrev pub decreases-assigned : goal.decreases-assigned
decreases-assigned l = l.depth

abbrev pub decreases-triggered : goal.decreases-triggered
decreases-triggered l = l.depth

abbrev pub decreases-condition : goal.decreases-condition
decreases-condition l = l.depth

abbrev pub decreases-written : goal.decreases-written
decreases-written l = l.depth

abbrev pub decreases-written_list : goal.decreases-written_list
decreases-written_list l = l.depth

abbrev pub decreases-written_select : goal.decreases-written_select
decreases-written_select l = l.depth

abbrev pub decreases-members : goal.decreases-members
decreases-members l = l.depth
