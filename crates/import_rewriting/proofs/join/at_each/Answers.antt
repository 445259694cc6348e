use Rattle.std.proofs.Common.{subst}
use Rattle.std.proofs.lemmas.Result.{IfOk-weaker}
use Rattle.import_properties.specs.Shapes.{written_form}
use Rattle.import_rewriting.proofs.EndsLaws.{Each}
use Rattle.import_rewriting.proofs.JoinLaws.{kept_each, negated_each}
use Rattle.import_rewriting.proofs.join.at_each.Goals as goal

pub returns-in-Kept : goal.returns-in-Kept
returns-in-Kept c =
    IfOk-weaker c.each_later.result _ _ (λ b h.
    kept_each c.args.sense c.args.least c.args.most (written_form c.args.body.value) (written_form b.value) c.in-Kept.is
    (subst (λ a. Each c.args.least c.args.most (written_form a) (written_form b.value)) c.deref.ensures h))
    c.each_later.ensures

pub returns-in-Negated : goal.returns-in-Negated
returns-in-Negated c =
    IfOk-weaker c.some_later.result _ _ (λ b h.
    negated_each c.args.sense c.args.least c.args.most (written_form c.args.body.value) (written_form b.value)
    c.in-Negated.is h)
    c.some_later.ensures
