use Rattle.assertions.specs.Shapes.{written_form}
use Rattle.types.proofs.SameLaws.{says_lead}
use Rattle.types.proofs.make.lead_of.Goals as goal

pub returns : goal.returns
returns c = λ w h b.
    rw c.in_ok-new.ensures.ok
    (says_lead w (written_form c.in-Some.body.value) c.args.least c.args.most c.requires (rw c.in-Some.is at b))
