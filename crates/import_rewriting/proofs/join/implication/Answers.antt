use Rattle.std.proofs.Common.{sym, subst}
use Rattle.std.proofs.lemmas.Result.{IfOk-weaker}
use Rattle.assertions.specs.Written.{IsOrdered, kernel}
use Rattle.import_properties.specs.declared.condition.Condition.TheVariants.{One}
use Rattle.import_properties.specs.Properties.{followed}
use Rattle.import_properties.specs.Shapes.{written_form}
use Rattle.import_rewriting.proofs.EndsLaws.{Ends}
use Rattle.import_rewriting.specs.Sides.{Says}
use Rattle.import_rewriting.proofs.JoinLaws.{kept_implied, negated_implied}
use Rattle.import_rewriting.proofs.join.implication.Goals as goal

pub returns-in-Kept : goal.returns-in-Kept
returns-in-Kept c =
    IfOk-weaker c.ends_of.result _ _ (λ b h.
    kept_implied c.args.sense (written_form c.args.antecedent.now) (written_form c.args.body.value)
    (written_form b.value)
    c.in-Kept.is
    (subst (λ a. Ends (written_form c.args.antecedent.now) (written_form a) (written_form b.value)) c.deref.ensures h))
    c.ends_of.ensures

pub returns-in_ok-first-in-Negated : goal.returns-in_ok-first-in-Negated
returns-in_ok-first-in-Negated c =
    let r = written_form c.args.antecedent.now in
    let copy = c.in_ok-first-in-Negated.ensures in
    IfOk-weaker c.followed.result _ _ (λ b h.
    negated_implied c.args.sense r (written_form c.args.body.value) (written_form b.value) c.in-Negated.is
    (λ bound p sv. subst (λ a. Says bound (followed (kernel One a) p) (written_form b.value)) copy
    (h bound p (subst (λ a. IsOrdered a) (sym copy) c.requires) sv)))
    c.followed.ensures
