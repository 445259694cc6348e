use Rattle.parser.proofs.FileLaws.{nothing-read}
use Rattle.parser.proofs.file.parse.Goals as goal

pub returns-in-Err-clause-err : goal.returns-in-Err-clause-err
returns-in-Err-clause-err c = nothing-read _ _ c.in-Err.ensures.read

pub returns-in-Some-clause-err : goal.returns-in-Some-clause-err
returns-in-Some-clause-err c = c.in-Some.ensures.file _ c.in-Ok.ensures.read c.in-Ok.ensures.asserted

pub returns-clause-ok : goal.returns-clause-ok
returns-clause-ok c = c.in-None.ensures.file _ c.in-Ok.ensures.read c.in-Ok.ensures.asserted
