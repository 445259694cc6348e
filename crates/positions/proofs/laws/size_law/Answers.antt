use Rattle.positions.proofs.laws.size_law.Goals as goal
use Rattle.positions.proofs.Theorem.{law-section_is_small}
use Rattle.positions.proofs.Short.{law-section_is_short}

pub returns-clause-positions : goal.returns-clause-positions
returns-clause-positions c = law-section_is_small

pub returns-clause-instructions : goal.returns-clause-instructions
returns-clause-instructions c = law-section_is_short
