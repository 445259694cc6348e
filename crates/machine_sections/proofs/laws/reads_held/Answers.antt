use Rattle.machine_sections.proofs.Histories.{reads}
use Rattle.machine_sections.proofs.laws.reads_held.Goals as goal

pub returns : goal.returns
returns c = reads
