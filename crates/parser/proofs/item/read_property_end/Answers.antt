use Rattle.parser.proofs.ItemSteps.{property-end-fail1, property-end-fail2, property-end-fail3, property-end-ok}
use Rattle.parser.proofs.item.read_property_end.Goals as goal

pub returns-in-Err-clause-read : goal.returns-in-Err-clause-read
returns-in-Err-clause-read c =
    property-end-fail1 _ _ c.in-Err.ensures.read

pub returns-in-Err-expect-clause-read : goal.returns-in-Err-expect-clause-read
returns-in-Err-expect-clause-read c =
    property-end-fail2 _ _ _ _ c.in-Ok.ensures.read c.in-Err-expect.ensures.token

pub returns-in-Err-expect-2-clause-read : goal.returns-in-Err-expect-2-clause-read
returns-in-Err-expect-2-clause-read c =
    property-end-fail3 _ _ _ _ _ _ c.in-Ok.ensures.read c.in-Ok-expect.ensures.token c.in-Err-expect-2.ensures.token

pub returns-clause-read : goal.returns-clause-read
returns-clause-read c =
    property-end-ok _ _ _ _ _ _ _ c.in-Ok.ensures.read c.in-Ok-expect.ensures.token c.in-Ok-expect-2.ensures.token
