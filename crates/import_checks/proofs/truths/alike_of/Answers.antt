use Rattle.std.proofs.Common.{◌≡◌, rules}
use Rattle.import_trees.specs.declared.operator.Infix.TheVariants as infixes
use Rattle.import_elaboration.specs.declared.value.Value.TheVariants as values
use Rattle.import_checks.proofs.PartLaws.{value_as}
use Rattle.import_checks.proofs.TruthLaws.{joins_alike_some, joins_unlike}
use Rattle.import_checks.proofs.truths.alike_of.Goals as goal

pub returns-else-not-is_negation-2 : goal.returns-else-not-is_negation-2
returns-else-not-is_negation-2 c =
    let o = c.args.parts.now in
    let k = c.in-Some-Infix-Equal-default-default in
    let is : k.field-0 ≡ values.Infix infixes.Equal k.first k.second = search rules in
    let at = value_as o c.args.id k.field-0 (values.Infix infixes.Equal k.first k.second) k.ensures is in
    joins_alike_some o c.args.id k.first k.second c.truths_of.result at (c.is_negation.ensures (search rules))
    (c.is_negation-in-Some-Infix-Equal-default-default.ensures (search rules)) c.truths_of.ensures.first
    c.truths_of.ensures.second

pub returns-in-Some : goal.returns-in-Some
returns-in-Some c =
    let o = c.args.parts.now in
    let k = c.in-Some-Infix-NotEqual-default-default in
    let is : k.field-0 ≡ values.Infix infixes.NotEqual k.first k.second = search rules in
    let at = value_as o c.args.id k.field-0 (values.Infix infixes.NotEqual k.first k.second) k.ensures is in
    rw c.negation.ensures
    (joins_unlike o c.args.id k.first k.second c.in-Some.one c.in-Some.other at
    (c.is_negation-in-Some-Infix-NotEqual-default-default.ensures (search rules))
    (c.is_negation-in-Some-Infix-NotEqual-default-default-2.ensures (search rules)) (search rules) (search rules))
