use Rattle.std.proofs.Common.{ap, sym, ◌∙◌, subst}
use Rattle.std.proofs.lemmas.Result.{IfOk-weaker}
use Rattle.assertions.specs.Emptiness.{admits_empty}
use Rattle.assertions.specs.Written.{boolean, delay}
use Rattle.import_properties.specs.declared.condition.Condition.TheVariants.{One}
use Rattle.import_properties.specs.Shapes.{written_form}
use Rattle.import_rewriting.specs.Rewriting.{EndsLater}
use Rattle.import_rewriting.proofs.SideLaws.{ends_at_once, ends_delayed}
use Rattle.import_rewriting.proofs.rewriting.ends_later.Goals as goal

pub returns-then-is_one-clause-later : goal.returns-then-is_one-clause-later
returns-then-is_one-clause-later c =
    let t = written_form c.args.second.now in
    let one = sym (ap written_form c.deref.ensures) ∙ c.is_one.ensures c.if-is_one.true in
    IfOk-weaker c.ends_from_start.result _ _ (λ b h.
    subst (λ r. EndsLater r c.args.least c.args.most t (written_form b.value)) (sym one)
    (subst (λ t. EndsLater (boolean One) c.args.least c.args.most t (written_form b.value)) c.in_ok-second.ensures h))
    c.ends_from_start.ensures.later

pub returns-then-most-eq0-clause-later : goal.returns-then-most-eq0-clause-later
returns-then-most-eq0-clause-later c =
    let r = written_form c.args.first.value in
    let t = written_form c.args.second.now in
    IfOk-weaker c.made.result _ _ (λ b made.
    subst (λ a. EndsLater r c.args.least c.args.most t a) (sym (ap written_form made.0))
    (subst (λ x. EndsLater r c.args.least c.args.most t (delay r 0 0 x)) (sym c.in_ok-second.ensures)
    (ends_at_once r c.args.least c.args.most t c.requires.range c.if-most-eq0.true)))
    c.made.ensures.ok

pub returns-clause-later : goal.returns-clause-later
returns-clause-later c =
    let r = written_form c.args.first.value in
    let t = written_form c.args.second.now in
    let least = c.args.least in
    let most = c.args.most in
    let some_r = sym (ap (λ a. admits_empty (written_form a)) c.deref-2.ensures) ∙ sym c.if-may_be_empty.ensures in
    let some_t =
    sym (sym (ap (λ a. admits_empty (written_form a)) c.deref-else-may_be_empty.ensures)
    ∙ sym c.if-may_be_empty-2.ensures) in
    IfOk-weaker c.made-2.result _ _ (λ b made.
    subst (λ a. EndsLater r least most t a) (sym (ap written_form made.0))
    (subst (λ x. EndsLater r least most t (delay r least most x)) (sym c.in_ok-second.ensures)
    (ends_delayed r least most t c.requires.first_fits.ordered c.requires.second_fits.ordered some_r
    (sym (ap admits_empty c.in_ok-second.ensures) ∙ sym some_t))))
    c.made-2.ensures.ok
