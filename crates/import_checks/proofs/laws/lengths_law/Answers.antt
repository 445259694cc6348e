use Rattle.import_checks.proofs.LengthLaws.{match-ends}
use Rattle.import_checks.proofs.laws.lengths_law.Goals as goal

pub returns : goal.returns
returns c = λ holds w i j o h. match-ends holds w i j o h
