use Rattle.parser.proofs.Steps.{word-yes, word-no}
use Rattle.parser.proofs.read.expect_word.Goals as goal

pub returns-then-not-is_word-clause-token : goal.returns-then-not-is_word-clause-token
returns-then-not-is_word-clause-token c = word-no _ _ _ c.in-Some.ensures c.if-not-is_word.ensures

pub returns-clause-token : goal.returns-clause-token
returns-clause-token c = word-yes _ _ _ c.in-Some.ensures c.if-not-is_word.ensures
