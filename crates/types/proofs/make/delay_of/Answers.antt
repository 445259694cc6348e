use Rattle.assertions.specs.Shapes.{written_form}
use Rattle.types.proofs.SameLaws.{says_delay}
use Rattle.types.proofs.make.delay_of.Goals as goal

pub returns : goal.returns
returns c = λ v w h a b.
    rw c.in_ok-new.ensures.ok
    (says_delay v w (written_form c.in-Some.first.value) (written_form c.in-Some-second.second.value) c.args.least
    c.args.most c.requires (rw c.in-Some.is at a) (rw c.in-Some-second.is at b))
