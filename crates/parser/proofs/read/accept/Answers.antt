use Rattle.parser.proofs.Steps.{expect-yes, expect-no}
use Rattle.parser.proofs.read.accept.Goals as goal

pub returns-then-is-clause-token : goal.returns-then-is-clause-token
returns-then-is-clause-token c = expect-yes _ _ _ _ c.in-Some.ensures c.if-is.ensures

pub returns-clause-token : goal.returns-clause-token
returns-clause-token c = expect-no _ _ _ _ c.in-Some.ensures c.if-is.ensures
