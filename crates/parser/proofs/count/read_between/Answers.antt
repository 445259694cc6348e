use Rattle.parser.proofs.SequenceSteps.{between-fail1, between-fail2, between-fail3, between-fail4, between-ok}
use Rattle.parser.proofs.count.read_between.Goals as goal

pub returns-in-Err-clause-read : goal.returns-in-Err-clause-read
returns-in-Err-clause-read c =
    between-fail1 _ _ c.in-Err.ensures.bound

pub returns-in-Err-expect-clause-read : goal.returns-in-Err-expect-clause-read
returns-in-Err-expect-clause-read c =
    between-fail2 _ _ _ _ c.in-Ok.ensures.bound c.in-Err-expect.ensures.token

pub returns-in-Err-expect_bound-clause-read : goal.returns-in-Err-expect_bound-clause-read
returns-in-Err-expect_bound-clause-read c =
    between-fail3 _ _ _ _ _ _ c.in-Ok.ensures.bound c.in-Ok-expect.ensures.token c.in-Err-expect_bound.ensures.bound

pub returns-in-Err-expect-2-clause-read : goal.returns-in-Err-expect-2-clause-read
returns-in-Err-expect-2-clause-read c =
    between-fail4 _ _ _ _ _ _ _ _ c.in-Ok.ensures.bound c.in-Ok-expect.ensures.token
    c.in-Ok-expect_bound.ensures.bound c.in-Err-expect-2.ensures.token

pub returns-clause-read : goal.returns-clause-read
returns-clause-read c =
    between-ok _ _ _ _ _ _ _ _ _ c.in-Ok.ensures.bound c.in-Ok-expect.ensures.token c.in-Ok-expect_bound.ensures.bound
    c.in-Ok-expect-2.ensures.token
