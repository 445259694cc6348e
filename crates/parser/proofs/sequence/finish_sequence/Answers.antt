use Rattle.parser.proofs.Steps.{gives-as}
use Rattle.parser.proofs.SequenceSteps.{finish-fail1, finish-fail2, finish-fail3, finish-tail}
use Rattle.parser.proofs.sequence.finish_sequence.Goals as goal

pub returns-in-Err-clause-read : goal.returns-in-Err-clause-read
returns-in-Err-clause-read c =
    finish-fail1 _ _ _ _ c.in-Err.ensures.read

pub returns-in-Err-read_intersection-clause-read : goal.returns-in-Err-read_intersection-clause-read
returns-in-Err-read_intersection-clause-read c =
    finish-fail2 _ _ _ _ _ _ c.in-Ok.ensures.read c.in-Err-read_intersection.ensures.read

pub returns-in-Err-read_conjunction-clause-read : goal.returns-in-Err-read_conjunction-clause-read
returns-in-Err-read_conjunction-clause-read c =
    finish-fail3 _ _ _ _ _ _ _ _ c.in-Ok.ensures.read c.in-Ok-read_intersection.ensures.read
    c.in-Err-read_conjunction.ensures.read

pub returns-clause-read : goal.returns-clause-read
returns-clause-read c =
    gives-as _ _ _ _
    (finish-tail _ _ _ _ _ _ _ _ _ c.in-Ok.ensures.read c.in-Ok-read_intersection.ensures.read
    c.in-Ok-read_conjunction.ensures.read)
    c.read_alternatives.ensures.read
