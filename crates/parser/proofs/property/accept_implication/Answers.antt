use Rattle.parser.proofs.PropertySteps.{sign-no, sign-yes}
use Rattle.parser.proofs.property.accept_implication.Goals as goal

pub returns-in_default-implication_of-clause-sign : goal.returns-in_default-implication_of-clause-sign
returns-in_default-implication_of-clause-sign c =
    sign-no _ _ _ c.in-Some.ensures c.in_default-implication_of.ensures

pub returns-clause-sign : goal.returns-clause-sign
returns-clause-sign c = sign-yes _ _ _ _ c.in-Some.ensures c.in-Some-implication_of.ensures
