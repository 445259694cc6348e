use Rattle.positions.proofs.Firsts.{law-follows_first, law-well_formed, law-as_long}
use Rattle.positions.proofs.laws.first_law.Goals as goal

pub returns-clause-follows : goal.returns-clause-follows
returns-clause-follows c = law-follows_first

pub returns-clause-well_formed : goal.returns-clause-well_formed
returns-clause-well_formed c = law-well_formed

pub returns-clause-long : goal.returns-clause-long
returns-clause-long c = law-as_long
