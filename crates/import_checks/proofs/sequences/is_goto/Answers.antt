use Rattle.std.proofs.Common.{◌≡◌, ◌≤◌, arith, rules, true}
use Rattle.import_elaboration.specs.declared.part.Part.TheVariants as part
use Rattle.import_checks.specs.Sequences.{is_goto, is_nonconsecutive, is_found}
use Rattle.import_checks.proofs.PartLaws.{part_as}
use Rattle.import_checks.proofs.sequences.is_goto.Goals as goal

pub returns-in-Some : goal.returns-in-Some
returns-in-Some c =
    λ yes. let k = c.in-Some-Goto in
    let is : k.field-0 ≡ part.Goto k.value k.count = search rules in
    let at = part_as c.args.parts.now c.args.id k.field-0 (part.Goto k.value k.count) k.ensures is in
    rw c.in-Some.ensures (is_goto at (c.is_found.ensures yes))

pub returns-in-Some-nonconsecutive_in : goal.returns-in-Some-nonconsecutive_in
returns-in-Some-nonconsecutive_in c =
    λ yes. let k = c.in-Some-Nonconsecutive in
    let is : k.field-0 ≡ part.Nonconsecutive k.value k.count = search rules in
    let at = part_as c.args.parts.now c.args.id k.field-0 (part.Nonconsecutive k.value k.count) k.ensures is in
    rw c.in-Some-nonconsecutive_in.ensures
    (is_nonconsecutive at (c.is_found-in-Some-nonconsecutive_in.ensures yes))

pub returns-else-found-eq0 : goal.returns-else-found-eq0
returns-else-found-eq0 c =
    λ yes. let k = c.in-Some-Nonconsecutive in
    let is : k.field-0 ≡ part.Nonconsecutive k.value k.count = search rules in
    let at = part_as c.args.parts.now c.args.id k.field-0 (part.Nonconsecutive k.value k.count) k.ensures is in
    let only : c.args.only ≡ true = search rules in
    let some : 1 ≤ c.in-Some-goto_in.found.least = omega arith in
    rw (c.in-Some-goto_in.ensures, only) (is_found at (c.is_found-in-Some-goto_in.ensures yes) some)
