use Rattle.std.proofs.Common.{ap}
use Rattle.std.proofs.lemmas.Result.{IfOk-weaker}
use Rattle.import_properties.specs.Shapes.{written_form}
use Rattle.import_rewriting.proofs.SideLaws.{is_rewriting}
use Rattle.import_rewriting.proofs.rewriting.rewritten.Goals as goal

pub returns : goal.returns
returns c =
    IfOk-weaker c.sides_of.result _ _ (λ b sides.
    is_rewriting c.args.bound c.args.property.now (written_form c.in_ok-start.start.value)
    (written_form b.antecedent.value) (written_form b.consequent.value) (ap written_form c.in_ok-start.ensures) sides)
    c.sides_of.ensures
