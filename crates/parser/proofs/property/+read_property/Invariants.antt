use Rattle.parser.proofs.property.+read_property.Given as goal

abbrev pub decreases-read_property : goal.decreases-read_property
decreases-read_property l = l.depth
