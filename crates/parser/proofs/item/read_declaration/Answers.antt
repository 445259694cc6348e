use Rattle.parser.proofs.ItemSteps.{declaration-fail1, declaration-fail2, declaration-fail3, declaration-fail4}
use Rattle.parser.proofs.ItemSteps.{declaration-ok}
use Rattle.parser.proofs.item.read_declaration.Goals as goal

pub returns-in-Err-clause-read : goal.returns-in-Err-clause-read
returns-in-Err-clause-read c =
    declaration-fail1 _ _ c.in-Err.ensures.token

pub returns-in-Err-expect-clause-read : goal.returns-in-Err-expect-clause-read
returns-in-Err-expect-clause-read c =
    declaration-fail2 _ _ _ _ c.in-Ok.ensures.token c.in-Err-expect.ensures.token

pub returns-in-Err-read_sequence-clause-read : goal.returns-in-Err-read_sequence-clause-read
returns-in-Err-read_sequence-clause-read c =
    declaration-fail3 _ _ _ _ _ _ c.in-Ok.ensures.token c.in-Ok-expect.ensures.token
    c.in-Err-read_sequence.ensures.read

pub returns-in-Err-read_ending-clause-read : goal.returns-in-Err-read_ending-clause-read
returns-in-Err-read_ending-clause-read c =
    declaration-fail4 _ _ _ _ _ _ _ _ c.in-Ok.ensures.token c.in-Ok-expect.ensures.token
    c.in-Ok-read_sequence.ensures.read c.in-Err-read_ending.ensures.read

pub returns-clause-read : goal.returns-clause-read
returns-clause-read c =
    declaration-ok _ _ _ _ _ _ _ _ c.in-Ok.ensures.token c.in-Ok-expect.ensures.token
    c.in-Ok-read_sequence.ensures.read c.in-Ok-read_ending.ensures.read
