use Rattle.parser.proofs.ItemSteps.{again-no-word, again-other, again-ok}
use Rattle.parser.proofs.item.expect_again.Goals as goal

pub returns-then-not-is_word-clause-read : goal.returns-then-not-is_word-clause-read
returns-then-not-is_word-clause-read c = again-no-word _ _ _ _ c.in-Some.ensures c.if-not-is_word.ensures

pub returns-then-eq-clause-read : goal.returns-then-eq-clause-read
returns-then-eq-clause-read c = again-ok _ _ _ _ c.in-Some.ensures c.if-not-is_word.ensures c.if-eq.ensures

pub returns-clause-read : goal.returns-clause-read
returns-clause-read c = again-other _ _ _ _ c.in-Some.ensures c.if-eq.ensures
