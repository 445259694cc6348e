use Rattle.machine_sections.proofs.Rows.{by-meaning}
use Rattle.machine_sections.proofs.laws.runs_by_meaning.Goals as goal

pub returns : goal.returns
returns c = by-meaning
