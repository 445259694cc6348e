use Rattle.std.proofs.Common.{◌≡◌, rules}
use Rattle.assertions.specs.Written.{boolean, lead}
use Rattle.import_elaboration.specs.declared.part.Part.TheVariants as part
use Rattle.import_properties.specs.declared.condition.Condition.TheVariants.{One}
use Rattle.import_properties.specs.Shapes.{written_form}
use Rattle.import_checks.specs.Properties.{is_delayed}
use Rattle.import_checks.proofs.PartLaws.{part_as}
use Rattle.import_checks.proofs.properties.is_delayed.Goals as goal

pub returns : goal.returns
returns c =
    λ yes.
    let at-is : c.in-Some-Lead.field-0 ≡ part.Lead c.in-Some-Lead.count c.in-Some-Lead.body = search rules in
    let at = part_as c.args.parts.now c.args.id c.in-Some-Lead.field-0
    (part.Lead c.in-Some-Lead.count c.in-Some-Lead.body) c.in-Some-Lead.ensures at-is in
    let m = c.in-Some-moved_in in
    let end : written_form c.args.end.now ≡ lead c.in-Some.least c.in-Some.least (boolean One) = c.in-Some.ensures in
    let asked : written_form c.args.asked.now ≡ lead 0 m.more (written_form m.inner.now) = m.ensures in
    rw (end, asked)
    (is_delayed c.in-Some.least m.more (written_form m.inner.now) at (c.is_from.ensures (search rules))
    (c.is_sequence.ensures yes) (c.takes_ticks.ensures (search rules)))
