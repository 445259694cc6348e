use Rattle.parser.proofs.ItemSteps.{opening-fail1, opening-fail2, opening-ok}
use Rattle.parser.proofs.item.read_opening.Goals as goal

pub returns-in-Err-clause-read : goal.returns-in-Err-clause-read
returns-in-Err-clause-read c =
    opening-fail1 _ _ c.in-Err.ensures.token

pub returns-in-Err-expect-clause-read : goal.returns-in-Err-expect-clause-read
returns-in-Err-expect-clause-read c =
    opening-fail2 _ _ _ _ c.in-Ok.ensures.token c.in-Err-expect.ensures.token

pub returns-clause-read : goal.returns-clause-read
returns-clause-read c =
    opening-ok _ _ _ _ _ c.in-Ok.ensures.token c.in-Ok-expect.ensures.token
