use Rattle.parser.proofs.Steps.{select-fail1, select-fail2, select-fail3, select-ok}
use Rattle.parser.proofs.expression.read_select.Goals as goal

pub returns-in-Err-clause-read : goal.returns-in-Err-clause-read
returns-in-Err-clause-read c =
    select-fail1 _ _ c.in-Err.ensures.index

pub returns-in-Err-read_low-clause-read : goal.returns-in-Err-read_low-clause-read
returns-in-Err-read_low-clause-read c =
    select-fail2 _ _ _ _ c.in-Ok.ensures.index c.in-Err-read_low.ensures.read

pub returns-in-Err-expect-clause-read : goal.returns-in-Err-expect-clause-read
returns-in-Err-expect-clause-read c =
    select-fail3 _ _ _ _ _ _ c.in-Ok.ensures.index c.in-Ok-read_low.ensures.read c.in-Err-expect.ensures.token

pub returns-clause-read : goal.returns-clause-read
returns-clause-read c =
    select-ok _ _ _ _ _ _ _ c.in-Ok.ensures.index c.in-Ok-read_low.ensures.read c.in-Ok-expect.ensures.token
