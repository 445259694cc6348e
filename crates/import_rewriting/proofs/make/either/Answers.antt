use Rattle.std.proofs.lemmas.Result.{IfOk-weaker}
use Rattle.import_properties.specs.Shapes.{written_form}
use Rattle.import_rewriting.proofs.SaysLaws.{says_or}
use Rattle.import_rewriting.proofs.make.either.Goals as goal

pub returns : goal.returns
returns c =
    IfOk-weaker c.made.result _ _ (λ b made bound p q sv sw.
    let first = written_form c.args.first.value in
    let second = written_form c.args.second.value in
    rw made.0 (says_or bound p q first second made.1 sv sw))
    c.made.ensures.ok
