use Rattle.std.proofs.Common.{◌≡◌, ◌≤◌, arith, rules}
use Rattle.import_elaboration.specs.declared.part.Part.TheVariants as part
use Rattle.assertions.specs.Written.{boolean}
use Rattle.import_properties.specs.Shapes.{written_form}
use Rattle.import_checks.specs.Sequences.{is_first_repeat}
use Rattle.import_checks.proofs.PartLaws.{part_as}
use Rattle.import_checks.proofs.firsts.is_first_repeat.Goals as goal

pub returns-else-not-begins_at : goal.returns-else-not-begins_at
returns-else-not-begins_at c =
    λ yes.
    let at-is : c.in-Some-FirstMatch.field-0 ≡ part.FirstMatch c.in-Some-FirstMatch.body = search rules in
    let at = part_as c.args.parts.now c.args.id c.in-Some-FirstMatch.field-0
    (part.FirstMatch c.in-Some-FirstMatch.body) c.in-Some-FirstMatch.ensures at-is in
    let inside-is : c.in-Some-Repeat.field-0 ≡ part.Repeat c.in-Some-Repeat.held c.in-Some-Repeat.count = search rules
    in
    let inside = part_as c.args.parts.now c.in-Some-FirstMatch.body c.in-Some-Repeat.field-0
    (part.Repeat c.in-Some-Repeat.held c.in-Some-Repeat.count) c.in-Some-Repeat.ensures inside-is in
    let k = c.in-Repeat in
    let same : k.most ≡ k.least = search rules in
    let some : 1 ≤ k.least = omega arith in
    let inner : written_form k.inner.value ≡ boolean c.in-Some.condition = rw c.deref.ensures at c.in-Some.ensures in
    rw (k.is, same, inner) (is_first_repeat at inside (c.begins_at.ensures (search rules)) some
    (c.is_boolean.ensures yes))
