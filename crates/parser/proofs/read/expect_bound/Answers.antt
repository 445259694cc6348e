use Rattle.parser.proofs.Steps.{bound-yes, bound-no}
use Rattle.parser.proofs.read.expect_bound.Goals as goal

pub returns-then-is-clause-bound : goal.returns-then-is-clause-bound
returns-then-is-clause-bound c = bound-no _ _ _ _ _ c.in-Some.ensures c.in-None.ensures

pub returns-in-Some-bound_of-clause-bound : goal.returns-in-Some-bound_of-clause-bound
returns-in-Some-bound_of-clause-bound c = bound-yes _ _ _ _ _ _ c.in-Some.ensures c.in-Some-bound_of.ensures

pub returns-else-is-clause-bound : goal.returns-else-is-clause-bound
returns-else-is-clause-bound c = bound-no _ _ _ _ _ c.in-Some.ensures c.in-None.ensures
