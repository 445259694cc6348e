use Rattle.parser.proofs.Steps.{gives-as, named-fail1, named-fail2, named-ok}
use Rattle.parser.proofs.expression.read_named.Goals as goal

pub returns-in-Err-clause-read : goal.returns-in-Err-clause-read
returns-in-Err-clause-read c =
    named-fail1 _ _ _ _ c.in-Err.ensures.read

pub returns-in-Err-read_selected-clause-read : goal.returns-in-Err-read_selected-clause-read
returns-in-Err-read_selected-clause-read c =
    named-fail2 _ _ _ _ _ _ c.in-Ok.ensures.read c.in-Err-read_selected.ensures.read

pub returns-clause-read : goal.returns-clause-read
returns-clause-read c =
    gives-as _ _ _ _ (named-ok _ _ _ _ _ _ _ c.in-Ok.ensures.read c.in-Ok-read_selected.ensures.read)
    c.path.ensures.read
