use Rattle.std.proofs.Common.{◌≡◌, rules, subst}
use Rattle.import_elaboration.specs.declared.part.Part.TheVariants as part
use Rattle.import_checks.specs.Sequences.{IsFound, is_first_goto}
use Rattle.import_checks.proofs.PartLaws.{part_as}
use Rattle.import_checks.proofs.firsts.is_first_goto.Goals as goal

pub returns-else-found : goal.returns-else-found
returns-else-found c =
    λ yes.
    let at-is : c.in-Some-FirstMatch.field-0 ≡ part.FirstMatch c.in-Some-FirstMatch.body = search rules in
    let at = part_as c.args.parts.now c.args.id c.in-Some-FirstMatch.field-0
    (part.FirstMatch c.in-Some-FirstMatch.body) c.in-Some-FirstMatch.ensures at-is in
    let inside-is : c.in-Some-Goto.field-0 ≡ part.Goto c.in-Some-Goto.value c.in-Some-Goto.count = search rules in
    let inside = part_as c.args.parts.now c.in-Some-FirstMatch.body c.in-Some-Goto.field-0
    (part.Goto c.in-Some-Goto.value c.in-Some-Goto.count) c.in-Some-Goto.ensures inside-is in
    let f = c.in-Some.found in
    let same : f.most ≡ f.least = search rules in
    let found = subst (λ n. IsFound c.args.parts.now c.args.bound c.in-Some-Goto.value c.in-Some-Goto.count f.condition
    f.least n f.gap) same (c.is_found.ensures yes) in
    rw (c.in-Some.ensures, same) (is_first_goto at inside found)
