use Rattle.std.proofs.Common.{◌≡◌, rules, subst}
use Rattle.import_elaboration.specs.declared.part.Part.TheVariants as part
use Rattle.import_checks.specs.Booleans.{is_value, is_strong_boolean, is_not_boolean, is_joined, is_boolean_once}
use Rattle.import_checks.specs.Booleans.{is_first_boolean, is_assigned_boolean}
use Rattle.import_checks.proofs.PartLaws.{part_as}
use Rattle.import_checks.proofs.TruthLaws.{joins_nots}
use Rattle.import_checks.specs.declared.joint.Joint.TheVariants.{Alike}
use Rattle.import_checks.specs.Booleans.{JoinsTo}
use Rattle.import_checks.proofs.booleans.+booleans.Goals as goal

pub is_boolean-returns-in-Some-Boolean : goal.is_boolean-returns-in-Some-Boolean
is_boolean-returns-in-Some-Boolean t c =
    λ yes. let k = c.in-Some-Boolean in
    let is : k.field-0 ≡ part.Boolean k.value = search rules in
    let at = part_as c.args.parts.now c.args.id k.field-0 (part.Boolean k.value) k.ensures is in
    is_value at (c.is_truth.ensures yes)

pub is_boolean-returns-in-Some-Strength : goal.is_boolean-returns-in-Some-Strength
is_boolean-returns-in-Some-Strength t c =
    λ yes. let k = c.in-Some-Strength in
    let is : k.field-0 ≡ part.Strength k.body = search rules in
    let at = part_as c.args.parts.now c.args.id k.field-0 (part.Strength k.body) k.ensures is in
    is_strong_boolean at (c.is_boolean.ensures yes)

pub is_boolean-returns-in-Some-FirstMatch : goal.is_boolean-returns-in-Some-FirstMatch
is_boolean-returns-in-Some-FirstMatch t c =
    λ yes. let k = c.in-Some-FirstMatch in
    let is : k.field-0 ≡ part.FirstMatch k.body = search rules in
    let at = part_as c.args.parts.now c.args.id k.field-0 (part.FirstMatch k.body) k.ensures is in
    is_first_boolean at (c.is_boolean-in-Some-FirstMatch.ensures yes)

pub is_boolean-returns-in-Some-Assigned : goal.is_boolean-returns-in-Some-Assigned
is_boolean-returns-in-Some-Assigned t c =
    λ yes. let k = c.in-Some-Assigned in
    let is : k.field-0 ≡ part.Assigned k.body k.field-0-1 = search rules in
    let at = part_as c.args.parts.now c.args.id k.field-0 (part.Assigned k.body k.field-0-1) k.ensures is in
    is_assigned_boolean at (c.is_boolean-in-Some-Assigned.ensures yes)

pub is_boolean-returns-in-Some-Not : goal.is_boolean-returns-in-Some-Not
is_boolean-returns-in-Some-Not t c =
    λ yes. let k = c.in-Some-Not in
    let is : k.field-0 ≡ part.Not k.body = search rules in
    let at = part_as c.args.parts.now c.args.id k.field-0 (part.Not k.body) k.ensures is in
    is_not_boolean at (rw c.negation.ensures at (c.is_boolean-in-Some-Not.ensures yes))

pub is_boolean-returns-else-not-has_count : goal.is_boolean-returns-else-not-has_count
is_boolean-returns-else-not-has_count t c =
    λ yes.
    let at-is : c.in-Some-Repeat.field-0 ≡ part.Repeat c.in-Some-Repeat.body c.in-Some-Repeat.count = search rules in
    let at = part_as c.args.parts.now c.args.id c.in-Some-Repeat.field-0
    (part.Repeat c.in-Some-Repeat.body c.in-Some-Repeat.count) c.in-Some-Repeat.ensures at-is in
    is_boolean_once at (c.has_count.ensures (search rules)) (c.is_boolean-in-Some-Repeat.ensures yes)

pub is_join-returns-then-is_boolean : goal.is_join-returns-then-is_boolean
is_join-returns-then-is_boolean t c =
    λ yes. is_joined c.in-Some.ensures c.in-Some-joint_of.ensures (c.is_boolean.ensures (search rules))
    (c.is_boolean-then-is_boolean.ensures yes) c.in-Some-sides_of.ensures

pub is_join-returns : goal.is_join-returns
is_join-returns t c =
    λ yes. let s = c.in-Some-sides_of in
    let j = c.in-Some-joint_of in
    let alike : j.joint ≡ Alike = search rules in
    let joins = subst (λ x. JoinsTo c.args.parts.now x s.one s.other c.args.condition) alike s.ensures in
    let nots = joins_nots c.args.parts.now s.one s.other c.args.condition joins in
    let first = rw c.negation.ensures at (c.is_boolean-2.ensures (search rules)) in
    let second = rw c.negation-2.ensures at (c.is_boolean-3.ensures yes) in
    is_joined c.in-Some.ensures (rw alike at j.ensures) first second nots
