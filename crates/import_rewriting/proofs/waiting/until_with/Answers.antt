use Rattle.std.proofs.Common.{ap, sym, ◌∙◌, subst}
use Rattle.std.proofs.lemmas.Result.{IfOk-weaker}
use Rattle.assertions.specs.Written.{boolean}
use Rattle.import_properties.specs.Properties.{both}
use Rattle.import_properties.specs.Shapes.{written_form}
use Rattle.import_rewriting.specs.Senses.{SaysUntilWith}
use Rattle.import_rewriting.proofs.SaysLaws.{says_as}
use Rattle.import_rewriting.proofs.waiting.until_with.Goals as goal

pub returns-in-Kept : goal.returns-in-Kept
returns-in-Kept c =
    let u = written_form c.args.first.now in
    let v = written_form c.args.second.value in
    IfOk-weaker c.waiting.result _ _ (λ b says.
    subst (λ s. SaysUntilWith c.args.bound s u v (written_form b.value)) (sym c.in-Kept.is) (λ ticks p q le sp sq.
    says ticks p (both p q) le
    (says_as ticks p (written_form c.args.first.now) (boolean c.in-Some.held) c.in-Some.ensures sp)
    (c.in_ok-last-in-Kept.ensures ticks p q
    (says_as ticks p (written_form c.args.first.now) (boolean c.in-Some.held) c.in-Some.ensures sp) sq)))
    c.waiting.ensures

pub returns-in-Some-boolean_of : goal.returns-in-Some-boolean_of
returns-in-Some-boolean_of c =
    let u = written_form c.args.first.now in
    let v = written_form c.args.second.value in
    IfOk-weaker c.until_with_negated.result _ _ (λ b says.
    subst (λ s. SaysUntilWith c.args.bound s u v (written_form b.value)) (sym c.in-Negated.is) (λ ticks p q le sp sq.
    says ticks p q le (says_as ticks p u (boolean c.in-Some.held) c.in-Some.ensures sp)
    (says_as ticks q v (boolean c.in-Some-boolean_of.last)
    (sym (ap written_form c.deref.ensures) ∙ c.in-Some-boolean_of.ensures) sq)))
    c.until_with_negated.ensures
