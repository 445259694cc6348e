use Rattle.parser.proofs.ItemSteps.{counter-fail1, counter-fail2, counter-fail3, counter-fail4, counter-fail5}
use Rattle.parser.proofs.ItemSteps.{counter-fail6, counter-ok}
use Rattle.parser.proofs.item.read_counter.Goals as goal

pub returns-in-Err-clause-read : goal.returns-in-Err-clause-read
returns-in-Err-clause-read c =
    counter-fail1 _ _ c.in-Err.ensures.read

pub returns-in-Err-read_clear-clause-read : goal.returns-in-Err-read_clear-clause-read
returns-in-Err-read_clear-clause-read c =
    counter-fail2 _ _ _ _ _ c.in-Ok.ensures.read c.in-Err-read_clear.ensures.read

pub returns-in-Err-read_clause-clause-read : goal.returns-in-Err-read_clause-clause-read
returns-in-Err-read_clause-clause-read c =
    counter-fail3 _ _ _ _ _ _ _ c.in-Ok.ensures.read c.in-Ok-read_clear.ensures.read c.in-Err-read_clause.ensures.read

pub returns-in-Err-read_clause-2-clause-read : goal.returns-in-Err-read_clause-2-clause-read
returns-in-Err-read_clause-2-clause-read c =
    counter-fail4 _ _ _ _ _ _ _ _ _ c.in-Ok.ensures.read c.in-Ok-read_clear.ensures.read
    c.in-Ok-read_clause.ensures.read c.in-Err-read_clause-2.ensures.read

pub returns-in-Err-read_clause-3-clause-read : goal.returns-in-Err-read_clause-3-clause-read
returns-in-Err-read_clause-3-clause-read c =
    counter-fail5 _ _ _ _ _ _ _ _ _ _ _ c.in-Ok.ensures.read c.in-Ok-read_clear.ensures.read
    c.in-Ok-read_clause.ensures.read c.in-Ok-read_clause-2.ensures.read c.in-Err-read_clause-3.ensures.read

pub returns-in-Err-expect-clause-read : goal.returns-in-Err-expect-clause-read
returns-in-Err-expect-clause-read c =
    counter-fail6 _ _ _ _ _ _ _ _ _ _ _ _ _ c.in-Ok.ensures.read c.in-Ok-read_clear.ensures.read
    c.in-Ok-read_clause.ensures.read c.in-Ok-read_clause-2.ensures.read c.in-Ok-read_clause-3.ensures.read
    c.in-Err-expect.ensures.token

pub returns-clause-read : goal.returns-clause-read
returns-clause-read c =
    counter-ok _ _ _ _ _ _ _ _ _ _ _ _ _ _ c.in-Ok.ensures.read c.in-Ok-read_clear.ensures.read
    c.in-Ok-read_clause.ensures.read c.in-Ok-read_clause-2.ensures.read c.in-Ok-read_clause-3.ensures.read
    c.in-Ok-expect.ensures.token
