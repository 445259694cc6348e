use Rattle.std.proofs.lemmas.Result.{IfOk-weaker}
use Rattle.import_properties.specs.Shapes.{written_form}
use Rattle.import_rewriting.proofs.SaysLaws.{says_later}
use Rattle.import_rewriting.proofs.make.later.Goals as goal

pub returns : goal.returns
returns c =
    IfOk-weaker c.made.result _ _ (λ b made bound p sw.
    rw made.0 (says_later bound c.args.count p (written_form c.args.body.value) made.1 sw))
    c.made.ensures.ok
