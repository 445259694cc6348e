use Rattle.parser.proofs.ItemSteps.{head-fail1, head-fail2, head-fail3, head-fail4, head-ok}
use Rattle.parser.proofs.item.read_counter_head.Goals as goal

pub returns-in-Err-clause-read : goal.returns-in-Err-clause-read
returns-in-Err-clause-read c =
    head-fail1 _ _ c.in-Err.ensures.token

pub returns-in-Err-expect-clause-read : goal.returns-in-Err-expect-clause-read
returns-in-Err-expect-clause-read c =
    head-fail2 _ _ _ _ c.in-Ok.ensures.token c.in-Err-expect.ensures.token

pub returns-in-Err-expect_bound-clause-read : goal.returns-in-Err-expect_bound-clause-read
returns-in-Err-expect_bound-clause-read c =
    head-fail3 _ _ _ _ _ _ c.in-Ok.ensures.token c.in-Ok-expect.ensures.token c.in-Err-expect_bound.ensures.bound

pub returns-in-Err-expect-2-clause-read : goal.returns-in-Err-expect-2-clause-read
returns-in-Err-expect-2-clause-read c =
    head-fail4 _ _ _ _ _ _ _ _ c.in-Ok.ensures.token c.in-Ok-expect.ensures.token c.in-Ok-expect_bound.ensures.bound
    c.in-Err-expect-2.ensures.token

pub returns-clause-read : goal.returns-clause-read
returns-clause-read c =
    head-ok _ _ _ _ _ _ _ _ _ c.in-Ok.ensures.token c.in-Ok-expect.ensures.token c.in-Ok-expect_bound.ensures.bound
    c.in-Ok-expect-2.ensures.token
