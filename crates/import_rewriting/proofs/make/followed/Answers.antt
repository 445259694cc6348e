use Rattle.std.proofs.lemmas.Result.{IfOk-weaker}
use Rattle.import_properties.specs.Shapes.{written_form}
use Rattle.import_rewriting.proofs.SaysLaws.{says_followed}
use Rattle.import_rewriting.proofs.make.followed.Goals as goal

pub returns : goal.returns
returns c =
    IfOk-weaker c.made.result _ _ (λ b made bound p ordered sw.
    let first = written_form c.args.first.value in
    let second = written_form c.args.second.value in
    rw made.0 (says_followed bound p first second ordered made.1 sw))
    c.made.ensures.ok
