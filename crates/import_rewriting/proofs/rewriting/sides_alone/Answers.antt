use Rattle.import_properties.specs.Shapes.{written_form}
use Rattle.import_rewriting.proofs.SideLaws.{sides_alone}
use Rattle.import_rewriting.proofs.rewriting.sides_alone.Goals as goal

pub returns-in-Ok : goal.returns-in-Ok
returns-in-Ok c =
    sides_alone c.args.bound (written_form c.args.antecedent.value) c.args.property.now
    (written_form c.in-Ok.consequent.value) c.requires c.in-Ok.ensures
