use Rattle.std.proofs.Common.{inl, inr, ap, sym, ◌∙◌, subst}
use Rattle.std.proofs.lemmas.Result.{IfOk-weaker}
use Rattle.assertions.specs.Written.{boolean}
use Rattle.import_properties.specs.Properties.{form_of, negated, either, both, implied, followed}
use Rattle.import_properties.specs.declared.property.Property as tree
use Rattle.import_properties.specs.Shapes.{written_form}
use Rattle.import_rewriting.specs.declared.sense.Sense.TheVariants.{Kept}
use Rattle.import_rewriting.specs.Sides.{Says}
use Rattle.import_rewriting.specs.Senses.{in_sense, JoinsImplied}
use Rattle.import_rewriting.specs.Rewriting.{SaysIn, SaysImplies}
use Rattle.import_rewriting.proofs.SaysLaws.{says_as}
use Rattle.import_rewriting.proofs.ConsequentLaws.{says_opposite, says_followed_by, says_later_in}
use Rattle.import_rewriting.proofs.consequent.+consequent.Goals as goal

pub consequent_of-returns-in-Sequence : goal.consequent_of-returns-in-Sequence
consequent_of-returns-in-Sequence t c =
    IfOk-weaker c.sequence_in.result _ _ (λ b h.
    subst (λ a. SaysIn c.args.sense c.args.bound a (written_form b.value)) (sym c.in-Sequence.is) (λ ticks inside.
    h ticks))
    c.sequence_in.ensures

pub consequent_of-returns-in-Not : goal.consequent_of-returns-in-Not
consequent_of-returns-in-Not t c =
    IfOk-weaker c.consequent_of.result _ _ (λ b h.
    subst (λ a. SaysIn c.args.sense c.args.bound a (written_form b.value)) (sym c.in-Not.is) (λ ticks inside.
    says_opposite ticks c.args.sense c.opposite.result (form_of c.in-Not.body.value) (written_form b.value)
    c.opposite.ensures (subst (λ a. SaysIn c.opposite.result c.args.bound a (written_form b.value)) c.deref.ensures h
    ticks inside)))
    c.consequent_of.ensures

pub consequent_of-returns-in_ok-second-in-And : goal.consequent_of-returns-in_ok-second-in-And
consequent_of-returns-in_ok-second-in-And t c =
    IfOk-weaker c.conjunction.result _ _ (λ b h.
    subst (λ a. SaysIn c.args.sense c.args.bound a (written_form b.value)) (sym c.in-And.is) (λ ticks inside.
    h ticks (form_of c.in-And.first.value) (form_of c.in-And.second.value)
    (subst (λ a. SaysIn c.args.sense c.args.bound a (written_form c.in_ok-first-in-And.first.value))
    c.deref-in-And.ensures c.in_ok-first-in-And.ensures
    ticks (λ o. inside (inl o)))
    (subst (λ a. SaysIn c.args.sense c.args.bound a (written_form c.in_ok-second-in-And.second.value))
    c.deref-in-And-2.ensures c.in_ok-second-in-And.ensures
    ticks (λ o. inside (inr o)))))
    c.conjunction.ensures

pub consequent_of-returns-in_ok-second-in-Or : goal.consequent_of-returns-in_ok-second-in-Or
consequent_of-returns-in_ok-second-in-Or t c =
    IfOk-weaker c.disjunction.result _ _ (λ b h.
    subst (λ a. SaysIn c.args.sense c.args.bound a (written_form b.value)) (sym c.in-Or.is) (λ ticks inside.
    h ticks (form_of c.in-Or.first.value) (form_of c.in-Or.second.value)
    (subst (λ a. SaysIn c.args.sense c.args.bound a (written_form c.in_ok-first-in-Or.first.value))
    c.deref-in-Or.ensures c.in_ok-first-in-Or.ensures
    ticks (λ o. inside (inl o)))
    (subst (λ a. SaysIn c.args.sense c.args.bound a (written_form c.in_ok-second-in-Or.second.value))
    c.deref-in-Or-2.ensures c.in_ok-second-in-Or.ensures
    ticks (λ o. inside (inr o)))))
    c.disjunction.ensures

pub consequent_of-returns-in-Implies : goal.consequent_of-returns-in-Implies
consequent_of-returns-in-Implies t c =
    IfOk-weaker c.implies.result _ _ (λ b h.
    subst (λ a. SaysIn c.args.sense c.args.bound a (written_form b.value)) (sym c.in-Implies.is) (λ ticks inside.
    subst (λ q. SaysImplies c.args.sense c.args.bound c.in-Implies.first.value q (written_form b.value))
    c.deref-in-Implies-2.ensures
    (subst (λ p. SaysImplies c.args.sense c.args.bound p c.deref-in-Implies-2.result.now (written_form b.value))
    c.deref-in-Implies.ensures h) ticks (λ o. inside (inl o)) (λ o. inside (inr o))))
    c.implies.ensures

pub consequent_of-returns-in_ok-back-in-Iff : goal.consequent_of-returns-in_ok-back-in-Iff
consequent_of-returns-in_ok-back-in-Iff t c =
    IfOk-weaker c.conjunction-in-Iff.result _ _ (λ b h.
    subst (λ a. SaysIn c.args.sense c.args.bound a (written_form b.value)) (sym c.in-Iff.is) (λ ticks inside.
    let p = c.in-Iff.first.value in
    let q = c.in-Iff.second.value in
    h ticks (either (negated (form_of p)) (form_of q)) (either (negated (form_of q)) (form_of p))
    (subst (λ x. SaysImplies c.args.sense c.args.bound p x (written_form c.in_ok-forward-in-Iff.forward.value))
    c.deref-in-Iff-2.ensures
    (subst (λ x. SaysImplies c.args.sense c.args.bound x c.deref-in-Iff-2.result.now
    (written_form c.in_ok-forward-in-Iff.forward.value)) c.deref-in-Iff.ensures c.in_ok-forward-in-Iff.ensures)
    ticks (λ o. inside (inl o)) (λ o. inside (inr o)))
    (subst (λ x. SaysImplies c.args.sense c.args.bound q x (written_form c.in_ok-back-in-Iff.back.value))
    c.deref-in-Iff-4.ensures
    (subst (λ x. SaysImplies c.args.sense c.args.bound x c.deref-in-Iff-4.result.now
    (written_form c.in_ok-back-in-Iff.back.value)) c.deref-in-Iff-3.ensures c.in_ok-back-in-Iff.ensures)
    ticks (λ o. inside (inr o)) (λ o. inside (inl o)))))
    c.conjunction-in-Iff.ensures

pub consequent_of-returns-in_ok-body-in-Implication : goal.consequent_of-returns-in_ok-body-in-Implication
consequent_of-returns-in_ok-body-in-Implication t c =
    IfOk-weaker c.implication.result _ _ (λ b h.
    subst (λ a. SaysIn c.args.sense c.args.bound a (written_form b.value)) (sym c.in-Implication.is) (λ ticks inside.
    h ticks (form_of c.in-Implication.body.value)
    (subst (λ a. SaysIn c.args.sense c.args.bound a (written_form c.in_ok-body-in-Implication.body.value))
    c.deref-in-Implication.ensures c.in_ok-body-in-Implication.ensures ticks inside)))
    c.implication.ensures

pub consequent_of-returns-in_ok-body-in-NextImplication : goal.consequent_of-returns-in_ok-body-in-NextImplication
consequent_of-returns-in_ok-body-in-NextImplication t c =
    IfOk-weaker c.implication-in-NextImplication.result _ _ (λ b h.
    subst (λ a. SaysIn c.args.sense c.args.bound a (written_form b.value)) (sym c.in-NextImplication.is)
    (λ ticks inside.
    subst (λ k. Says ticks (in_sense c.args.sense (implied k (form_of c.in-NextImplication.body.value)))
    (written_form b.value))
    (c.in_ok-ended-in-NextImplication.ensures.ended)
    (subst (λ a. JoinsImplied c.args.sense (written_form a) (written_form c.in_ok-body-in-NextImplication.body.value)
    (written_form b.value)) c.deref-in-NextImplication-2.ensures h ticks (form_of c.in-NextImplication.body.value)
    (subst (λ a. SaysIn c.args.sense c.args.bound a (written_form c.in_ok-body-in-NextImplication.body.value))
    c.deref-in-NextImplication.ensures c.in_ok-body-in-NextImplication.ensures ticks inside))))
    c.implication-in-NextImplication.ensures

pub consequent_of-returns-in_ok-body-in-FollowedBy : goal.consequent_of-returns-in_ok-body-in-FollowedBy
consequent_of-returns-in_ok-body-in-FollowedBy t c =
    IfOk-weaker c.implication-in-FollowedBy.result _ _ (λ b h.
    subst (λ a. SaysIn c.args.sense c.args.bound a (written_form b.value)) (sym c.in-FollowedBy.is) (λ ticks inside.
    says_followed_by ticks c.args.sense c.opposite-in-FollowedBy.result (form_of c.in-FollowedBy.body.value)
    (written_form c.in-FollowedBy.antecedent) (written_form c.in_ok-body-in-FollowedBy.body.value)
    (written_form b.value) c.opposite-in-FollowedBy.ensures h
    (subst (λ a. SaysIn c.args.sense c.args.bound a (written_form c.in_ok-body-in-FollowedBy.body.value))
    c.deref-in-FollowedBy.ensures c.in_ok-body-in-FollowedBy.ensures ticks inside)))
    c.implication-in-FollowedBy.ensures

pub consequent_of-returns-in_ok-body-in-NextFollowedBy : goal.consequent_of-returns-in_ok-body-in-NextFollowedBy
consequent_of-returns-in_ok-body-in-NextFollowedBy t c =
    IfOk-weaker c.implication-in-NextFollowedBy.result _ _ (λ b h.
    subst (λ a. SaysIn c.args.sense c.args.bound a (written_form b.value)) (sym c.in-NextFollowedBy.is) (λ ticks inside.
    subst (λ k. Says ticks (in_sense c.args.sense (followed k (form_of c.in-NextFollowedBy.body.value)))
    (written_form b.value))
    (c.in_ok-ended-in-NextFollowedBy.ensures.ended)
    (says_followed_by ticks c.args.sense c.opposite-in-NextFollowedBy.result (form_of c.in-NextFollowedBy.body.value)
    (written_form c.in_ok-ended-in-NextFollowedBy.ended.value)
    (written_form c.in_ok-body-in-NextFollowedBy.body.value) (written_form b.value)
    c.opposite-in-NextFollowedBy.ensures
    (subst (λ a. JoinsImplied c.opposite-in-NextFollowedBy.result (written_form a)
    (written_form c.in_ok-body-in-NextFollowedBy.body.value) (written_form b.value))
    c.deref-in-NextFollowedBy-2.ensures h)
    (subst (λ a. SaysIn c.args.sense c.args.bound a (written_form c.in_ok-body-in-NextFollowedBy.body.value))
    c.deref-in-NextFollowedBy.ensures c.in_ok-body-in-NextFollowedBy.ensures ticks inside))))
    c.implication-in-NextFollowedBy.ensures

pub consequent_of-returns-in_ok-guard-in-If : goal.consequent_of-returns-in_ok-guard-in-If
consequent_of-returns-in_ok-guard-in-If t c =
    IfOk-weaker c.implication-in-If.result _ _ (λ b h.
    subst (λ a. SaysIn c.args.sense c.args.bound a (written_form b.value)) (sym c.in-If.is) (λ ticks inside.
    subst (λ a. JoinsImplied c.args.sense a (written_form c.in_ok-body-in-If.body.value) (written_form b.value))
    (ap written_form c.deref-in-If-2.ensures ∙ ap written_form c.in_ok-guard-in-If.ensures) h ticks
    (form_of c.in-If.body.value)
    (subst (λ a. SaysIn c.args.sense c.args.bound a (written_form c.in_ok-body-in-If.body.value))
    c.deref-in-If.ensures c.in_ok-body-in-If.ensures ticks inside)))
    c.implication-in-If.ensures

pub consequent_of-returns-in_ok-second-in-IfElse : goal.consequent_of-returns-in_ok-second-in-IfElse
consequent_of-returns-in_ok-second-in-IfElse t c =
    IfOk-weaker c.choice.result _ _ (λ b h.
    subst (λ a. SaysIn c.args.sense c.args.bound a (written_form b.value)) (sym c.in-IfElse.is) (λ ticks inside.
    h ticks (form_of c.in-IfElse.first.value) (form_of c.in-IfElse.second.value)
    (subst (λ a. SaysIn c.args.sense c.args.bound a (written_form c.in_ok-first-in-IfElse.first.value))
    c.deref-in-IfElse.ensures c.in_ok-first-in-IfElse.ensures
    ticks (λ o. inside (inl o)))
    (subst (λ a. SaysIn c.args.sense c.args.bound a (written_form c.in_ok-second-in-IfElse.second.value))
    c.deref-in-IfElse-2.ensures c.in_ok-second-in-IfElse.ensures
    ticks (λ o. inside (inr o)))))
    c.choice.ensures

pub consequent_of-returns-in_ok-body-in-Next : goal.consequent_of-returns-in_ok-body-in-Next
consequent_of-returns-in_ok-body-in-Next t c =
    IfOk-weaker c.later.result _ _ (λ b h.
    subst (λ a. SaysIn c.args.sense c.args.bound a (written_form b.value)) (sym c.in-Next.is) (λ ticks inside.
    says_later_in ticks c.in-Next.count c.args.sense (form_of c.in-Next.body.value)
    (written_form c.in_ok-body-in-Next.body.value) (written_form b.value) h
    (subst (λ a. SaysIn c.args.sense c.args.bound a (written_form c.in_ok-body-in-Next.body.value))
    c.deref-in-Next.ensures c.in_ok-body-in-Next.ensures ticks inside)))
    c.later.ensures

pub consequent_of-returns-in_ok-body-in-Always : goal.consequent_of-returns-in_ok-body-in-Always
consequent_of-returns-in_ok-body-in-Always t c =
    IfOk-weaker c.at_each.result _ _ (λ b h.
    subst (λ a. SaysIn c.args.sense c.args.bound a (written_form b.value)) (sym c.in-Always.is) (λ ticks inside.
    h ticks (form_of c.in-Always.body.value)
    (subst (λ a. SaysIn c.args.sense c.args.bound a (written_form c.in_ok-body-in-Always.body.value))
    c.deref-in-Always.ensures c.in_ok-body-in-Always.ensures ticks inside)))
    c.at_each.ensures

pub consequent_of-returns-in_ok-body-in-Eventually : goal.consequent_of-returns-in_ok-body-in-Eventually
consequent_of-returns-in_ok-body-in-Eventually t c =
    IfOk-weaker c.at_some.result _ _ (λ b h.
    subst (λ a. SaysIn c.args.sense c.args.bound a (written_form b.value)) (sym c.in-Eventually.is) (λ ticks inside.
    h ticks (form_of c.in-Eventually.body.value)
    (subst (λ a. SaysIn c.args.sense c.args.bound a (written_form c.in_ok-body-in-Eventually.body.value))
    c.deref-in-Eventually.ensures c.in_ok-body-in-Eventually.ensures ticks inside)))
    c.at_some.ensures

pub consequent_of-returns-in_ok-second-in-Until : goal.consequent_of-returns-in_ok-second-in-Until
consequent_of-returns-in_ok-second-in-Until t c =
    IfOk-weaker c.until.result _ _ (λ b h.
    subst (λ a. SaysIn c.args.sense c.args.bound a (written_form b.value)) (sym c.in-Until.is) (λ ticks inside.
    h ticks (form_of c.in-Until.first.value) (form_of c.in-Until.second.value) (inside tt)
    (subst (λ a. Says ticks (form_of c.in-Until.first.value) (written_form a)) (sym c.deref-in-Until-3.ensures)
    (subst (λ a. SaysIn Kept c.args.bound a (written_form c.in_ok-first-in-Until.first.value))
    c.deref-in-Until.ensures c.in_ok-first-in-Until.ensures
    ticks (λ o. inside tt)))
    (subst (λ a. SaysIn Kept c.args.bound a (written_form c.in_ok-second-in-Until.second.value))
    c.deref-in-Until-2.ensures
    c.in_ok-second-in-Until.ensures ticks (λ o. inside tt))))
    c.until.ensures

pub consequent_of-returns-in_ok-second-in-UntilWith : goal.consequent_of-returns-in_ok-second-in-UntilWith
consequent_of-returns-in_ok-second-in-UntilWith t c =
    IfOk-weaker c.until_with.result _ _ (λ b h.
    subst (λ a. SaysIn c.args.sense c.args.bound a (written_form b.value)) (sym c.in-UntilWith.is) (λ ticks inside.
    h ticks (form_of c.in-UntilWith.first.value) (form_of c.in-UntilWith.second.value) (inside tt)
    (subst (λ a. Says ticks (form_of c.in-UntilWith.first.value) (written_form a)) (sym c.deref-in-UntilWith-3.ensures)
    (subst (λ a. SaysIn Kept c.args.bound a (written_form c.in_ok-first-in-UntilWith.first.value))
    c.deref-in-UntilWith.ensures c.in_ok-first-in-UntilWith.ensures
    ticks (λ o. inside tt)))
    (subst (λ a. SaysIn Kept c.args.bound a (written_form c.in_ok-second-in-UntilWith.second.value))
    c.deref-in-UntilWith-2.ensures
    c.in_ok-second-in-UntilWith.ensures ticks (λ o. inside tt))))
    c.until_with.ensures

pub implies-returns : goal.implies-returns
implies-returns t c =
    IfOk-weaker c.disjunction.result _ _ (λ b h ticks inside_first inside_second.
    h ticks (negated (form_of c.args.first.now)) (form_of c.args.second.now)
    (says_opposite ticks c.args.sense c.opposite.result (form_of c.args.first.now)
    (written_form c.in_ok-missed.missed.value) c.opposite.ensures (c.in_ok-missed.ensures ticks inside_first))
    (c.in_ok-second.ensures ticks inside_second))
    c.disjunction.ensures
