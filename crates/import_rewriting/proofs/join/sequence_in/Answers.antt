use Rattle.std.proofs.Common.{ap, sym, ◌∙◌, subst}
use Rattle.std.proofs.lemmas.Result.{IfOk-weaker}
use Rattle.assertions.specs.Written.{kernel}
use Rattle.import_properties.specs.declared.condition.Condition.TheVariants.{One}
use Rattle.import_properties.specs.Properties.{sequence}
use Rattle.import_properties.specs.Shapes.{written_form}
use Rattle.import_rewriting.specs.Sides.{Says}
use Rattle.import_rewriting.specs.Senses.{in_sense}
use Rattle.import_rewriting.proofs.ConsequentLaws.{says_never}
use Rattle.import_rewriting.proofs.join.sequence_in.Goals as goal

pub returns-in_ok-never-in-Negated : goal.returns-in_ok-never-in-Negated
returns-in_ok-never-in-Negated c =
    let a = written_form c.args.sequence.now in
    IfOk-weaker c.ends_of.result _ _ (λ b ends bound.
    subst (λ s. Says bound (in_sense s (sequence (kernel One a))) (written_form b.value)) (sym c.in-Negated.is)
    (says_never bound a (written_form c.deref.result.now) (written_form b.value)
    (ap written_form c.deref.ensures ∙ ap written_form c.in_ok-never-in-Negated.ensures) ends))
    c.ends_of.ensures
