use Rattle.std.proofs.Common.{◌≡◌, rules}
use Rattle.import_trees.specs.declared.operator.Prefix.TheVariants as prefixes
use Rattle.import_elaboration.specs.declared.value.Value.TheVariants as values
use Rattle.import_checks.proofs.PartLaws.{value_as}
use Rattle.import_checks.proofs.TruthLaws.{truth_not}
use Rattle.import_checks.proofs.truths.+truth_at.Goals as goal

pub returns-in-Some : goal.returns-in-Some
returns-in-Some t c =
    let k = c.in-Some-Prefix-Not-default in
    let is : k.field-0 ≡ values.Prefix prefixes.Not k.operand = search rules in
    rw c.negation.ensures
    (truth_not c.args.parts.now c.args.id k.operand c.in-Some.inside
    (value_as c.args.parts.now c.args.id k.field-0
    (values.Prefix prefixes.Not k.operand) k.ensures is) c.in-Some.ensures)
