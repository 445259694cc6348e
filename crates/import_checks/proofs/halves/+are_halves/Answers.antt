use Rattle.std.proofs.Common.{◌≡◌, rules, subst}
use Rattle.import_elaboration.specs.declared.part.Part.TheVariants as part
use Rattle.import_checks.specs.Halves.{IsAround, are_sides, are_inside}
use Rattle.import_checks.proofs.PartLaws.{part_as}
use Rattle.import_checks.proofs.halves.+are_halves.Goals as goal

pub returns-then-eq : goal.returns-then-eq
returns-then-eq t c =
    λ yes. let k = c.in-Some-And in
    let is : k.field-0 ≡ part.And k.left k.right = search rules in
    let at = part_as c.args.parts.now c.args.whole k.field-0 (part.And k.left k.right) k.ensures is in
    let one : c.args.first ≡ k.left = search rules in
    let other : c.args.second ≡ k.right = search rules in
    rw (one, other) (are_sides at)

pub returns : goal.returns
returns t c =
    λ yes. let o = c.args.parts.now in
    let around = c.in-Some.around in
    let one = c.are_alike.ensures.first (search rules) in
    let other = c.are_alike.ensures.second (search rules) in
    let first = subst (λ a. IsAround o c.args.first a c.in-Some-around_at.left) one c.in-Some-around_at.ensures in
    let second = subst (λ a. IsAround o c.args.second a c.in-Some-around_at-2.right) other
    c.in-Some-around_at-2.ensures in
    are_inside around c.in-Some.ensures first second (c.are_halves.ensures yes)
