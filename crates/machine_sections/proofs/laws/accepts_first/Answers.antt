use Rattle.machine_sections.proofs.Firsts.{law}
use Rattle.machine_sections.proofs.laws.accepts_first.Goals as goal

pub returns : goal.returns
returns c = law
