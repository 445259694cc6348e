use Rattle.std.proofs.Common.{ap, sym, ◌∙◌, subst}
use Rattle.std.proofs.lemmas.Result.{IfOk-weaker}
use Rattle.assertions.specs.Emptiness.{admits_empty}
use Rattle.assertions.specs.Written.{boolean, lead}
use Rattle.import_properties.specs.declared.condition.Condition.TheVariants.{One}
use Rattle.import_properties.specs.Shapes.{written_form}
use Rattle.import_rewriting.specs.Rewriting.{EndsLater}
use Rattle.import_rewriting.proofs.SideLaws.{starts_at_once, starts_later, starts_moved}
use Rattle.import_rewriting.proofs.rewriting.ends_from_start.Goals as goal

pub returns-then-most-eq0-clause-later : goal.returns-then-most-eq0-clause-later
returns-then-most-eq0-clause-later c =
    starts_at_once c.args.least c.args.most (written_form c.args.antecedent.value) c.requires.range c.if-most-eq0.true

pub returns-then-not-may_be_empty-clause-later : goal.returns-then-not-may_be_empty-clause-later
returns-then-not-may_be_empty-clause-later c =
    let t = written_form c.args.antecedent.value in
    IfOk-weaker c.made.result _ _ (λ b made.
    subst (λ a. EndsLater (boolean One) c.args.least c.args.most t a) (sym (ap written_form made.0))
    (starts_later c.args.least c.args.most t c.requires.fits.ordered
    (sym (ap (λ a. admits_empty (written_form a)) c.deref.ensures) ∙ sym c.if-not-may_be_empty.ensures)))
    c.made.ensures.ok

pub returns-clause-later : goal.returns-clause-later
returns-clause-later c =
    let t = written_form c.args.antecedent.value in
    let tick = written_form c.in_ok-tick.tick.value in
    let least = c.args.least in
    let most = c.args.most in
    IfOk-weaker c.made-3.result _ _ (λ b made.
    subst (λ a. EndsLater (boolean One) least most t a) (sym (ap written_form made.0))
    (subst (λ a. EndsLater (boolean One) least most t (lead least most a))
    (sym (ap written_form c.in_ok-moved.ensures.ok.0))
    (starts_moved least most t tick c.requires.fits.ordered (ap written_form c.in_ok-tick.ensures))))
    c.made-3.ensures.ok
