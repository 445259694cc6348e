use Rattle.import_lowering.proofs.lowering.Lowering.+properties.Given as goal

abbrev pub decreases-property : goal.decreases-property
decreases-property l = l.depth

abbrev pub decreases-implied : goal.decreases-implied
decreases-implied l = l.depth

abbrev pub decreases-paired : goal.decreases-paired
decreases-paired l = l.depth

abbrev pub decreases-at_time : goal.decreases-at_time
decreases-at_time l = l.depth

abbrev pub decreases-cases : goal.decreases-cases
decreases-cases l = l.depth
