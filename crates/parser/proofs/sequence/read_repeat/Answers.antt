use Rattle.parser.proofs.Steps.{gives-as}
use Rattle.parser.proofs.SequenceSteps.{repeat-fails, repeat-ok}
use Rattle.parser.proofs.sequence.read_repeat.Goals as goal

pub returns-in-Err-clause-read : goal.returns-in-Err-clause-read
returns-in-Err-clause-read c =
    repeat-fails _ _ _ _ c.in-Err.ensures.read

pub returns-clause-read : goal.returns-clause-read
returns-clause-read c =
    gives-as _ _ _ _ (repeat-ok _ _ _ _ _ c.in-Ok.ensures.read)
    c.with_times.ensures.read
