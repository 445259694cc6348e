use Rattle.laws_one_report.proofs.Unrefused.{unrefused}
use Rattle.laws_one_report.proofs.laws.refusal_law.Goals as goal

pub returns : goal.returns
returns c = unrefused
