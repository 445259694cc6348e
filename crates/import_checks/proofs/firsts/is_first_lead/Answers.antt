use Rattle.std.proofs.Common.{◌≡◌, rules}
use Rattle.import_elaboration.specs.declared.part.Part.TheVariants as part
use Rattle.import_properties.specs.Shapes.{written_form}
use Rattle.import_checks.specs.Sequences.{first_of, is_first_lead}
use Rattle.import_checks.proofs.PartLaws.{part_as}
use Rattle.import_checks.proofs.firsts.is_first_lead.Goals as goal

pub returns-else-least-most : goal.returns-else-least-most
returns-else-least-most c =
    λ yes.
    let at-is : c.in-Some-FirstMatch.field-0 ≡ part.FirstMatch c.in-Some-FirstMatch.body = search rules in
    let at = part_as c.args.parts.now c.args.id c.in-Some-FirstMatch.field-0
    (part.FirstMatch c.in-Some-FirstMatch.body) c.in-Some-FirstMatch.ensures at-is in
    let inside-is : c.in-Some-Lead.field-0 ≡ part.Lead c.in-Some-Lead.count c.in-Some-Lead.found = search rules in
    let inside = part_as c.args.parts.now c.in-Some-FirstMatch.body c.in-Some-Lead.field-0
    (part.Lead c.in-Some-Lead.count c.in-Some-Lead.found) c.in-Some-Lead.ensures inside-is in
    let k = c.in-Lead in
    let same : k.most ≡ k.least = search rules in
    let inner : written_form k.inner.value ≡ first_of c.in-Some.condition c.in-Some.more =
    rw c.deref.ensures at c.in-Some.ensures in
    rw (k.is, same, inner) (is_first_lead at inside (c.is_waited.ensures.count yes) (c.is_waited.ensures.boolean yes))
