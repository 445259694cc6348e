use Rattle.std.proofs.Common.{ap, sym, ◌∙◌, subst}
use Rattle.std.proofs.lemmas.Result.{IfOk-weaker}
use Rattle.assertions.specs.Segments as kernel
use Rattle.assertions.specs.Written.{boolean}
use Rattle.import_properties.specs.Conditions.{negation}
use Rattle.import_properties.specs.Properties.{implied}
use Rattle.import_properties.specs.Shapes.{written_form}
use Rattle.import_rewriting.specs.Sides.{can_match}
use Rattle.import_rewriting.specs.Senses.{JoinsImplied}
use Rattle.import_rewriting.proofs.ConsequentLaws.{chosen_in}
use Rattle.import_rewriting.proofs.join.choice.Goals as goal

pub returns-then-can_match-2 : goal.returns-then-can_match-2
returns-then-can_match-2 c =
    IfOk-weaker c.either.result _ _ (λ b joined bound p q su sv.
    chosen_in c.args.condition c.negation.result (written_form c.args.first.value) (written_form c.args.second.value)
    (written_form c.in_ok-first.first.value) (written_form c.in_ok-second.second.value) (written_form b.value)
    c.negation.ensures c.in_ok-first.ensures c.in_ok-second.ensures joined
    (sym (ap (λ a. can_match (written_form a)) c.deref.ensures) ∙ sym c.if-can_match.ensures)
    (sym (ap (λ a. can_match (written_form a)) c.deref-then-can_match.ensures) ∙ sym c.if-can_match-2.ensures)
    bound p q c.args.sense su sv)
    c.either.ensures

pub returns : goal.returns
returns c =
    let guard = ap written_form c.deref-2.ensures ∙ ap written_form c.in_ok-guard.ensures in
    let other =
    ap written_form c.deref-3.ensures ∙ ap written_form c.in_ok-other.ensures ∙ ap boolean c.negation-2.ensures in
    let first = written_form c.in_ok-first-2.first.value in
    let second = written_form c.in_ok-second-2.second.value in
    IfOk-weaker c.conjunction.result _ _ (λ b joined bound p q su sv.
    joined bound (implied (kernel.one c.args.condition) p) (implied (kernel.one (negation c.args.condition)) q)
    (subst (λ a. JoinsImplied c.args.sense a (written_form c.args.first.value) first) guard c.in_ok-first-2.ensures
    bound p
    su)
    (subst (λ a. JoinsImplied c.args.sense a (written_form c.args.second.value) second) other c.in_ok-second-2.ensures
    bound q sv))
    c.conjunction.ensures
