use Rattle.std.proofs.lemmas.Result.{IfOk-weaker}
use Rattle.import_properties.specs.Shapes.{written_form}
use Rattle.import_rewriting.proofs.SaysLaws.{says_some_later}
use Rattle.import_rewriting.proofs.make.some_later.Goals as goal

pub returns : goal.returns
returns c =
    IfOk-weaker c.made.result _ _ (λ b made bound p sw.
    rw made.0
    (says_some_later bound c.args.least c.args.most p (written_form c.args.body.value) c.requires made.1 sw))
    c.made.ensures.ok
