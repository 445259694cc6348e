use Rattle.std.proofs.lemmas.Result.{IfOk-weaker}
use Rattle.import_properties.specs.Shapes.{written_form}
use Rattle.import_rewriting.proofs.JoinLaws.{kept_both, negated_both}
use Rattle.import_rewriting.proofs.join.conjunction.Goals as goal

pub returns-in-Kept : goal.returns-in-Kept
returns-in-Kept c =
    IfOk-weaker c.both.result _ _ (λ b h.
    kept_both c.args.sense (written_form c.args.first.value) (written_form c.args.second.value) (written_form b.value)
    c.in-Kept.is h)
    c.both.ensures

pub returns-in-Negated : goal.returns-in-Negated
returns-in-Negated c =
    IfOk-weaker c.either.result _ _ (λ b h.
    negated_both c.args.sense (written_form c.args.first.value) (written_form c.args.second.value)
    (written_form b.value) c.in-Negated.is h)
    c.either.ensures
