use Rattle.machine_sections.proofs.Theorem.{theorem}
use Rattle.machine_sections.proofs.laws.decides_by_meaning.Goals as goal

pub returns : goal.returns
returns c = theorem
