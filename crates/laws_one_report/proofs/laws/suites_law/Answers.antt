use Rattle.laws_one_report.proofs.SameLaws.{say_same}
use Rattle.laws_one_report.proofs.laws.suites_law.Goals as goal

pub returns : goal.returns
returns c = say_same
