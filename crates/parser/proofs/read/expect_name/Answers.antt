use Rattle.parser.proofs.NameSteps.{name-yes, name-no}
use Rattle.parser.proofs.read.expect_name.Goals as goal

pub returns-then-not-is_name-clause-token : goal.returns-then-not-is_name-clause-token
returns-then-not-is_name-clause-token c = name-no _ _ _ c.in-Some.ensures c.if-not-is_name.ensures

pub returns-clause-token : goal.returns-clause-token
returns-clause-token c = name-yes _ _ _ c.in-Some.ensures c.if-not-is_name.ensures
