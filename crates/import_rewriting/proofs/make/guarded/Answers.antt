use Rattle.std.proofs.Common.{ap}
use Rattle.std.proofs.lemmas.Result.{IfOk-weaker}
use Rattle.import_properties.specs.Shapes.{written_form}
use Rattle.import_rewriting.proofs.SaysLaws.{says_guard}
use Rattle.import_rewriting.proofs.make.guarded.Goals as goal

pub returns : goal.returns
returns c =
    IfOk-weaker c.made.result _ _ (λ b made bound p q sb sw.
    rw made.0
    (says_guard bound c.args.boolean p q (written_form c.in_ok-first.first.value) (written_form c.args.body.value)
    (ap written_form c.in_ok-first.ensures) made.1 sb sw))
    c.made.ensures.ok
