use Rattle.std.proofs.Common.{ap, sym, ◌∙◌}
use Rattle.std.proofs.lemmas.Result.{IfOk-weaker}
use Rattle.assertions.specs.Written.{boolean}
use Rattle.import_properties.specs.declared.condition.Condition.TheVariants.{Zero}
use Rattle.import_properties.specs.Shapes.{written_form}
use Rattle.import_rewriting.proofs.SaysLaws.{says_unless_as, says_missed, says_as}
use Rattle.import_rewriting.proofs.make.unless.Goals as goal

pub returns-then-is_zero : goal.returns-then-is_zero
returns-then-is_zero c = λ bound p sw. says_missed bound c.args.boolean p (written_form c.in_ok-missed.missed.value)
    (ap written_form c.in_ok-missed.ensures ∙ ap boolean c.negation.ensures)
    (says_as bound p (written_form c.args.body.value) (boolean Zero)
    (sym (ap written_form c.deref.ensures) ∙ c.is_zero.ensures.0 c.if-is_zero.true) sw)

pub returns : goal.returns
returns c =
    IfOk-weaker c.made.result _ _ (λ b made bound p sw.
    rw made.0
    (says_unless_as bound c.args.boolean p (written_form c.in_ok-missed.missed.value) (written_form c.args.body.value)
    (ap written_form c.in_ok-missed.ensures ∙ ap boolean c.negation.ensures) made.1 sw))
    c.made.ensures.ok
