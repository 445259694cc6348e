use Rattle.parser.proofs.ItemSteps.{assertion-fail1, assertion-fail2, assertion-fail3, assertion-fail4}
use Rattle.parser.proofs.ItemSteps.{assertion-fail5, assertion-ok}
use Rattle.parser.proofs.item.read_assertion.Goals as goal

pub returns-in-Err-clause-read : goal.returns-in-Err-clause-read
returns-in-Err-clause-read c =
    assertion-fail1 _ _ _ c.in-Err.ensures.token

pub returns-in-Err-read_opening-clause-read : goal.returns-in-Err-read_opening-clause-read
returns-in-Err-read_opening-clause-read c =
    assertion-fail2 _ _ _ _ _ c.in-Ok.ensures.token c.in-Err-read_opening.ensures.read

pub returns-in-Err-read_clock-clause-read : goal.returns-in-Err-read_clock-clause-read
returns-in-Err-read_clock-clause-read c =
    assertion-fail3 _ _ _ _ _ _ c.in-Ok.ensures.token c.in-Ok-read_opening.ensures.read
    c.in-Err-read_clock.ensures.read

pub returns-in-Err-read_disable-clause-read : goal.returns-in-Err-read_disable-clause-read
returns-in-Err-read_disable-clause-read c =
    assertion-fail4 _ _ _ _ _ _ _ _ c.in-Ok.ensures.token c.in-Ok-read_opening.ensures.read
    c.in-Ok-read_clock.ensures.read c.in-Err-read_disable.ensures.read

pub returns-in-Err-read_property_end-clause-read : goal.returns-in-Err-read_property_end-clause-read
returns-in-Err-read_property_end-clause-read c =
    assertion-fail5 _ _ _ _ _ _ _ _ _ _ c.in-Ok.ensures.token c.in-Ok-read_opening.ensures.read
    c.in-Ok-read_clock.ensures.read c.in-Ok-read_disable.ensures.read c.in-Err-read_property_end.ensures.read

pub returns-clause-read : goal.returns-clause-read
returns-clause-read c =
    assertion-ok _ _ _ _ _ _ _ _ _ _ _ c.in-Ok.ensures.token c.in-Ok-read_opening.ensures.read
    c.in-Ok-read_clock.ensures.read c.in-Ok-read_disable.ensures.read c.in-Ok-read_property_end.ensures.read
