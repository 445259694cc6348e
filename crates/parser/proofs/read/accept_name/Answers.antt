use Rattle.parser.proofs.NameSteps.{lead-name-yes, lead-name-no}
use Rattle.parser.proofs.read.accept_name.Goals as goal

pub returns-then-is_name-clause-token : goal.returns-then-is_name-clause-token
returns-then-is_name-clause-token c = lead-name-yes _ _ _ c.in-Some.ensures c.if-is_name.ensures

pub returns-clause-token : goal.returns-clause-token
returns-clause-token c = lead-name-no _ _ _ c.in-Some.ensures c.if-is_name.ensures
