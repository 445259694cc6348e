use Rattle.std.proofs.Common.{ap, sym, ◌∙◌}
use Rattle.std.proofs.lemmas.Result.{IfOk-weaker}
use Rattle.assertions.specs.Written.{boolean}
use Rattle.import_properties.specs.Shapes.{written_form}
use Rattle.import_rewriting.proofs.SaysLaws.{says_and, says_as, says_swap}
use Rattle.import_rewriting.proofs.make.both.Goals as goal

pub returns-in-Some : goal.returns-in-Some
returns-in-Some c =
    IfOk-weaker c.guarded.result _ _ (λ b says bound p q sv sw.
    says bound p q
    (says_as bound p (written_form c.args.first.value) (boolean c.in-Some.boolean)
    (sym (ap written_form c.deref.ensures) ∙ c.in-Some.ensures) sv) sw)
    c.guarded.ensures

pub returns-in-Some-boolean_of : goal.returns-in-Some-boolean_of
returns-in-Some-boolean_of c =
    IfOk-weaker c.guarded-in-Some-boolean_of.result _ _ (λ b says bound p q sv sw.
    says_swap bound q p (written_form b.value)
    (says bound q p
    (says_as bound q (written_form c.args.second.value) (boolean c.in-Some-boolean_of.boolean)
    (sym (ap written_form c.deref-2.ensures) ∙ c.in-Some-boolean_of.ensures) sw) sv))
    c.guarded-in-Some-boolean_of.ensures

pub returns : goal.returns
returns c =
    IfOk-weaker c.made.result _ _ (λ b made bound p q sv sw.
    let first = written_form c.args.first.value in
    let second = written_form c.args.second.value in
    rw made.0 (says_and bound p q first second made.1 sv sw))
    c.made.ensures.ok
