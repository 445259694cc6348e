use Rattle.types_signals.proofs.ReadLaws.{reads-asked}
use Rattle.types_signals.proofs.laws.asked_law.Goals as goal

pub returns : goal.returns
returns c = reads-asked
