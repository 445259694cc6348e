use Rattle.parser.proofs.Steps.{index-yes, index-no}
use Rattle.parser.proofs.read.expect_index.Goals as goal

pub returns-in-Some-index_of-clause-index : goal.returns-in-Some-index_of-clause-index
returns-in-Some-index_of-clause-index c = index-yes _ _ _ _ c.in-Some.ensures c.in-Some-index_of.ensures

pub returns-in-None-clause-index : goal.returns-in-None-clause-index
returns-in-None-clause-index c = index-no _ _ _ c.in-Some.ensures c.in-None.ensures
