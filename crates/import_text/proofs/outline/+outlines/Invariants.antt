use Rattle.import_text.proofs.outline.+outlines.Given as goal

abbrev pub decreases-has_outline : goal.decreases-has_outline
decreases-has_outline l = l.depth

abbrev pub decreases-has_delays : goal.decreases-has_delays
decreases-has_delays l = l.depth

abbrev pub decreases-has_sides : goal.decreases-has_sides
decreases-has_sides l = l.depth
