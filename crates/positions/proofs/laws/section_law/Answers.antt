use Rattle.positions.proofs.laws.section_law.Goals as goal
use Rattle.positions.proofs.Theorem.{law-section_follows, law-section_is_well_formed}

pub returns-clause-follows : goal.returns-clause-follows
returns-clause-follows c = law-section_follows

pub returns-clause-well_formed : goal.returns-clause-well_formed
returns-clause-well_formed c = law-section_is_well_formed
