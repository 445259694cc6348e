use Rattle.assertions.specs.Shapes.{written_form}
use Rattle.types.proofs.SameLaws.{says_intersect}
use Rattle.types.proofs.make.meet.Goals as goal

pub returns : goal.returns
returns c = λ v w a b.
    let first = written_form c.in-Some.first.value in
    let second = written_form c.in-Some-second.second.value in
    rw c.in_ok-new.ensures.ok
    (says_intersect v w first second (rw c.in-Some.is at a) (rw c.in-Some-second.is at b))
