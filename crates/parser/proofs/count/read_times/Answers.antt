use Rattle.parser.proofs.SequenceSteps.{times-fail1, times-fail2, times-fail3, times-ok}
use Rattle.parser.proofs.count.read_times.Goals as goal

pub returns-in-Err-clause-read : goal.returns-in-Err-clause-read
returns-in-Err-clause-read c =
    times-fail1 _ _ c.in-Err.ensures.bound

pub returns-in-Err-read_high-clause-read : goal.returns-in-Err-read_high-clause-read
returns-in-Err-read_high-clause-read c =
    times-fail2 _ _ _ _ c.in-Ok.ensures.bound c.in-Err-read_high.ensures.read

pub returns-in-Err-expect-clause-read : goal.returns-in-Err-expect-clause-read
returns-in-Err-expect-clause-read c =
    times-fail3 _ _ _ _ _ _ c.in-Ok.ensures.bound c.in-Ok-read_high.ensures.read c.in-Err-expect.ensures.token

pub returns-clause-read : goal.returns-clause-read
returns-clause-read c =
    times-ok _ _ _ _ _ _ _ c.in-Ok.ensures.bound c.in-Ok-read_high.ensures.read c.in-Ok-expect.ensures.token
