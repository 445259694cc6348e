use Rattle.assertions.specs.Shapes.{written_form}
use Rattle.types.proofs.SameLaws.{says_repeat}
use Rattle.types.proofs.make.repetition_of.Goals as goal

pub returns : goal.returns
returns c = λ w h b.
    rw c.in_ok-new.ensures.ok
    (says_repeat w (written_form c.in-Some.body.value) c.args.least c.args.most c.requires (rw c.in-Some.is at b))
