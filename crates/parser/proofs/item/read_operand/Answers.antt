use Rattle.parser.proofs.ItemSteps.{one-fail1, one-fail2, one-fail3, one-ok}
use Rattle.parser.proofs.item.read_operand.Goals as goal

pub returns-in-Err-clause-read : goal.returns-in-Err-clause-read
returns-in-Err-clause-read c =
    one-fail1 _ _ _ c.in-Err.ensures.token

pub returns-in-Err-read_expression-clause-read : goal.returns-in-Err-read_expression-clause-read
returns-in-Err-read_expression-clause-read c =
    one-fail2 _ _ _ _ _ c.in-Ok.ensures.token c.in-Err-read_expression.ensures.read

pub returns-in-Err-expect-clause-read : goal.returns-in-Err-expect-clause-read
returns-in-Err-expect-clause-read c =
    one-fail3 _ _ _ _ _ _ _ c.in-Ok.ensures.token c.in-Ok-read_expression.ensures.read c.in-Err-expect.ensures.token

pub returns-clause-read : goal.returns-clause-read
returns-clause-read c =
    one-ok _ _ _ _ _ _ _ _ c.in-Ok.ensures.token c.in-Ok-read_expression.ensures.read c.in-Ok-expect.ensures.token
