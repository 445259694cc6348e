use Rattle.parser.proofs.ItemSteps.{two-fail1, two-fail2, two-fail3, two-fail4, two-fail5, two-ok}
use Rattle.parser.proofs.item.read_operands.Goals as goal

pub returns-in-Err-clause-read : goal.returns-in-Err-clause-read
returns-in-Err-clause-read c =
    two-fail1 _ _ c.in-Err.ensures.token

pub returns-in-Err-read_expression-clause-read : goal.returns-in-Err-read_expression-clause-read
returns-in-Err-read_expression-clause-read c =
    two-fail2 _ _ _ _ c.in-Ok.ensures.token c.in-Err-read_expression.ensures.read

pub returns-in-Err-expect-clause-read : goal.returns-in-Err-expect-clause-read
returns-in-Err-expect-clause-read c =
    two-fail3 _ _ _ _ _ _ c.in-Ok.ensures.token c.in-Ok-read_expression.ensures.read c.in-Err-expect.ensures.token

pub returns-in-Err-read_expression-2-clause-read : goal.returns-in-Err-read_expression-2-clause-read
returns-in-Err-read_expression-2-clause-read c =
    two-fail4 _ _ _ _ _ _ _ _ c.in-Ok.ensures.token c.in-Ok-read_expression.ensures.read c.in-Ok-expect.ensures.token
    c.in-Err-read_expression-2.ensures.read

pub returns-in-Err-expect-2-clause-read : goal.returns-in-Err-expect-2-clause-read
returns-in-Err-expect-2-clause-read c =
    two-fail5 _ _ _ _ _ _ _ _ _ _ c.in-Ok.ensures.token c.in-Ok-read_expression.ensures.read
    c.in-Ok-expect.ensures.token c.in-Ok-read_expression-2.ensures.read c.in-Err-expect-2.ensures.token

pub returns-clause-read : goal.returns-clause-read
returns-clause-read c =
    two-ok _ _ _ _ _ _ _ _ _ _ _ c.in-Ok.ensures.token c.in-Ok-read_expression.ensures.read
    c.in-Ok-expect.ensures.token c.in-Ok-read_expression-2.ensures.read c.in-Ok-expect-2.ensures.token
