use Rattle.parser.proofs.ItemSteps.{clock-fail1, clock-fail2, clock-fail3, clock-fail4, clock-fail5, clock-ok}
use Rattle.parser.proofs.item.read_clock.Goals as goal

pub returns-in-Err-clause-read : goal.returns-in-Err-clause-read
returns-in-Err-clause-read c =
    clock-fail1 _ _ c.in-Err.ensures.token

pub returns-in-Err-expect-clause-read : goal.returns-in-Err-expect-clause-read
returns-in-Err-expect-clause-read c =
    clock-fail2 _ _ _ _ c.in-Ok.ensures.token c.in-Err-expect.ensures.token

pub returns-in-Err-expect-2-clause-read : goal.returns-in-Err-expect-2-clause-read
returns-in-Err-expect-2-clause-read c =
    clock-fail3 _ _ _ _ _ _ c.in-Ok.ensures.token c.in-Ok-expect.ensures.token c.in-Err-expect-2.ensures.token

pub returns-in-Err-read_path-clause-read : goal.returns-in-Err-read_path-clause-read
returns-in-Err-read_path-clause-read c =
    clock-fail4 _ _ _ _ _ _ _ _ c.in-Ok.ensures.token c.in-Ok-expect.ensures.token c.in-Ok-expect-2.ensures.token
    c.in-Err-read_path.ensures.read

pub returns-in-Err-expect-3-clause-read : goal.returns-in-Err-expect-3-clause-read
returns-in-Err-expect-3-clause-read c =
    clock-fail5 _ _ _ _ _ _ _ _ _ _ c.in-Ok.ensures.token c.in-Ok-expect.ensures.token c.in-Ok-expect-2.ensures.token
    c.in-Ok-read_path.ensures.read c.in-Err-expect-3.ensures.token

pub returns-clause-read : goal.returns-clause-read
returns-clause-read c =
    clock-ok _ _ _ _ _ _ _ _ _ _ _ c.in-Ok.ensures.token c.in-Ok-expect.ensures.token c.in-Ok-expect-2.ensures.token
    c.in-Ok-read_path.ensures.read c.in-Ok-expect-3.ensures.token
