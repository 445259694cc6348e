use Rattle.std.proofs.Common.{◌≡◌, rules}
use Rattle.import_elaboration.specs.declared.part.Part.TheVariants as part
use Rattle.assertions.specs.Written.{lead}
use Rattle.import_properties.specs.Shapes.{written_form}
use Rattle.import_checks.specs.Sequences.{first_of, anywhere, is_one_tick, is_lead}
use Rattle.import_checks.specs.Sequences.{is_delay, is_repeat, is_once, is_throughout, is_and, is_or, is_intersect}
use Rattle.import_checks.specs.Sequences.{is_within, is_inside, is_first, is_first_only, is_first_delay, is_assigned}
use Rattle.import_checks.proofs.PartLaws.{part_as}
use Rattle.import_checks.proofs.sequences.+sequences.Goals as goal

pub is_contained-returns-else-not-is_sequence : goal.is_contained-returns-else-not-is_sequence
is_contained-returns-else-not-is_sequence t c =
    λ yes.
    let at-is : c.in-Some-Within.field-0 ≡ part.Within c.in-Some-Within.first c.in-Some-Within.second = search rules in
    let at = part_as c.args.parts.now c.args.id c.in-Some-Within.field-0
    (part.Within c.in-Some-Within.first c.in-Some-Within.second) c.in-Some-Within.ensures at-is in
    let k = c.in-Intersect in
    let around : written_form k.around.value ≡ anywhere (written_form c.in-Some.inner.now) c.in-Some.most =
    rw c.deref.ensures at c.in-Some.ensures in
    let fits = rw c.deref-in-Some.ensures at (c.is_within.ensures (search rules)) in
    let outer = rw c.deref-in-Some-2.ensures at (c.is_sequence-in-Some.ensures yes) in
    rw (k.is, around) (is_within at (c.is_sequence.ensures (search rules)) outer fits)

pub is_contained-returns-else-not-is_sequence-2 : goal.is_contained-returns-else-not-is_sequence-2
is_contained-returns-else-not-is_sequence-2 t c =
    λ yes.
    let at-is : c.in-Some-Within.field-0 ≡ part.Within c.in-Some-Within.first c.in-Some-Within.second = search rules in
    let at = part_as c.args.parts.now c.args.id c.in-Some-Within.field-0
    (part.Within c.in-Some-Within.first c.in-Some-Within.second) c.in-Some-Within.ensures at-is in
    let k = c.in-And in
    let m = c.in-Some-moved_in in
    let moved : written_form k.somewhere.value ≡ lead 0 m.more (written_form m.inner.now) =
    rw c.deref-in-And.ensures at m.ensures in
    let fits = rw c.deref-in-Some-moved_in.ensures at (c.fits.ensures (search rules)) in
    let outer = rw c.deref-in-Some-moved_in-2.ensures at (c.is_sequence-in-Some-moved_in-2.ensures yes) in
    rw (k.is, moved) (is_inside at (c.is_sequence-in-Some-moved_in.ensures (search rules)) outer fits)

pub is_first-returns-then-only : goal.is_first-returns-then-only
is_first-returns-then-only t c =
    λ yes.
    let at-is : c.in-Some-FirstMatch.field-0 ≡ part.FirstMatch c.in-Some-FirstMatch.body = search rules in
    let at = part_as c.args.parts.now c.args.id c.in-Some-FirstMatch.field-0
    (part.FirstMatch c.in-Some-FirstMatch.body) c.in-Some-FirstMatch.ensures at-is in
    rw c.if-only.true (is_first_only at (c.takes_ticks.ensures (search rules)) (c.is_sequence.ensures yes))

pub is_first-returns : goal.is_first-returns
is_first-returns t c =
    λ yes.
    let at-is : c.in-Some-FirstMatch.field-0 ≡ part.FirstMatch c.in-Some-FirstMatch.body = search rules in
    let at = part_as c.args.parts.now c.args.id c.in-Some-FirstMatch.field-0
    (part.FirstMatch c.in-Some-FirstMatch.body) c.in-Some-FirstMatch.ensures at-is in
    is_first at (c.is_sequence-2.ensures yes) (c.has_one_length.ensures (search rules))

pub is_first_delay-returns-else-not-is_waited : goal.is_first_delay-returns-else-not-is_waited
is_first_delay-returns-else-not-is_waited t c =
    λ yes.
    let at-is : c.in-Some-FirstMatch.field-0 ≡ part.FirstMatch c.in-Some-FirstMatch.body = search rules in
    let at = part_as c.args.parts.now c.args.id c.in-Some-FirstMatch.field-0
    (part.FirstMatch c.in-Some-FirstMatch.body) c.in-Some-FirstMatch.ensures at-is in
    let inside-is : c.in-Some-Delay.field-0 ≡ part.Delay c.in-Some-Delay.first c.in-Some-Delay.count
    c.in-Some-Delay.second = search rules in
    let inside = part_as c.args.parts.now c.in-Some-FirstMatch.body c.in-Some-Delay.field-0
    (part.Delay c.in-Some-Delay.first c.in-Some-Delay.count c.in-Some-Delay.second) c.in-Some-Delay.ensures
    inside-is in
    let k = c.in-Delay in
    let same : k.most ≡ k.least = search rules in
    let last : written_form k.right.value ≡ first_of c.in-Some.condition c.in-Some.more =
    rw c.deref.ensures at c.in-Some.ensures in
    let after = rw c.deref-in-Some.ensures at c.in-Some-start_after.ensures in
    let left = rw c.deref-in-Some-2.ensures at (c.is_sequence.ensures yes) in
    rw (k.is, same, last)
    (is_first_delay at inside (c.is_waited.ensures.count (search rules)) after left
    (c.is_waited.ensures.boolean (search rules)))

pub is_held-returns-then-has_count : goal.is_held-returns-then-has_count
is_held-returns-then-has_count t c =
    λ yes.
    let at-is : c.in-Some-Repeat.field-0 ≡ part.Repeat c.in-Some-Repeat.body c.in-Some-Repeat.count = search rules in
    let at = part_as c.args.parts.now c.args.id c.in-Some-Repeat.field-0
    (part.Repeat c.in-Some-Repeat.body c.in-Some-Repeat.count) c.in-Some-Repeat.ensures at-is in
    is_once at (c.has_count.ensures (search rules)) (c.is_sequence.ensures yes)

pub is_held-returns-else-not-has_count : goal.is_held-returns-else-not-has_count
is_held-returns-else-not-has_count t c =
    λ yes.
    let at-is : c.in-Some-Repeat.field-0 ≡ part.Repeat c.in-Some-Repeat.body c.in-Some-Repeat.count = search rules in
    let at = part_as c.args.parts.now c.args.id c.in-Some-Repeat.field-0
    (part.Repeat c.in-Some-Repeat.body c.in-Some-Repeat.count) c.in-Some-Repeat.ensures at-is in
    let inner = rw c.deref.ensures at (c.is_sequence-in-Repeat.ensures yes) in
    rw c.in-Repeat.is (is_repeat at (c.has_count-in-Repeat.ensures (search rules)) inner)

pub is_held-returns-else-not-is_truth : goal.is_held-returns-else-not-is_truth
is_held-returns-else-not-is_truth t c =
    λ yes.
    let at-is : c.in-Some-Throughout.field-0 ≡ part.Throughout c.in-Some-Throughout.value c.in-Some-Throughout.body =
    search rules in
    let at = part_as c.args.parts.now c.args.id c.in-Some-Throughout.field-0
    (part.Throughout c.in-Some-Throughout.value c.in-Some-Throughout.body) c.in-Some-Throughout.ensures at-is in
    let inner = rw c.deref-in-Throughout.ensures at (c.is_sequence-in-Throughout.ensures yes) in
    rw c.in-Throughout.is (is_throughout at (c.is_truth.ensures (search rules)) inner)

pub is_pair-returns-else-not-is_sequence : goal.is_pair-returns-else-not-is_sequence
is_pair-returns-else-not-is_sequence t c =
    λ yes.
    let at-is : c.in-Some-And.field-0 ≡ part.And c.in-Some-And.first c.in-Some-And.second = search rules in
    let at = part_as c.args.parts.now c.args.id c.in-Some-And.field-0
    (part.And c.in-Some-And.first c.in-Some-And.second) c.in-Some-And.ensures at-is in
    let left = rw c.deref.ensures at (c.is_sequence.ensures (search rules)) in
    let right = rw c.deref-in-And.ensures at (c.is_sequence-in-And.ensures yes) in
    rw c.in-And.is (is_and at left right)

pub is_pair-returns-else-not-is_sequence-2 : goal.is_pair-returns-else-not-is_sequence-2
is_pair-returns-else-not-is_sequence-2 t c =
    λ yes.
    let at-is : c.in-Some-Or.field-0 ≡ part.Or c.in-Some-Or.first c.in-Some-Or.second = search rules in
    let at = part_as c.args.parts.now c.args.id c.in-Some-Or.field-0
    (part.Or c.in-Some-Or.first c.in-Some-Or.second) c.in-Some-Or.ensures at-is in
    let left = rw c.deref-in-Or.ensures at (c.is_sequence-in-Or.ensures (search rules)) in
    let right = rw c.deref-in-Or-2.ensures at (c.is_sequence-in-Or-2.ensures yes) in
    rw c.in-Or.is (is_or at left right)

pub is_pair-returns-else-not-is_sequence-3 : goal.is_pair-returns-else-not-is_sequence-3
is_pair-returns-else-not-is_sequence-3 t c =
    λ yes.
    let at-is : c.in-Some-Intersect.field-0 ≡ part.Intersect c.in-Some-Intersect.first c.in-Some-Intersect.second =
    search rules in
    let at = part_as c.args.parts.now c.args.id c.in-Some-Intersect.field-0
    (part.Intersect c.in-Some-Intersect.first c.in-Some-Intersect.second) c.in-Some-Intersect.ensures at-is in
    let left = rw c.deref-in-Intersect.ensures at (c.is_sequence-in-Intersect.ensures (search rules)) in
    let right = rw c.deref-in-Intersect-2.ensures at (c.is_sequence-in-Intersect-2.ensures yes) in
    rw c.in-Intersect.is (is_intersect at left right)

pub is_sequence-returns-in-Some : goal.is_sequence-returns-in-Some
is_sequence-returns-in-Some t c =
    λ yes.
    rw c.in-Some.ensures (is_one_tick (c.is_boolean.ensures yes))

pub is_sequence-returns-else-not-has_count : goal.is_sequence-returns-else-not-has_count
is_sequence-returns-else-not-has_count t c =
    λ yes.
    let at-is : c.in-Some-Lead.field-0 ≡ part.Lead c.in-Some-Lead.count c.in-Some-Lead.body = search rules in
    let at = part_as c.args.parts.now c.args.id c.in-Some-Lead.field-0
    (part.Lead c.in-Some-Lead.count c.in-Some-Lead.body) c.in-Some-Lead.ensures at-is in
    let inner = rw c.deref.ensures at (c.is_sequence.ensures yes) in
    rw c.in-Lead.is (is_lead at (c.has_count.ensures (search rules)) inner)

pub is_sequence-returns-else-not-is_sequence : goal.is_sequence-returns-else-not-is_sequence
is_sequence-returns-else-not-is_sequence t c =
    λ yes.
    let at-is : c.in-Some-Delay.field-0 ≡ part.Delay c.in-Some-Delay.first c.in-Some-Delay.count c.in-Some-Delay.second
    = search rules in
    let at = part_as c.args.parts.now c.args.id c.in-Some-Delay.field-0
    (part.Delay c.in-Some-Delay.first c.in-Some-Delay.count c.in-Some-Delay.second) c.in-Some-Delay.ensures at-is in
    let left = rw c.deref-in-Delay.ensures at (c.is_sequence-in-Delay.ensures (search rules)) in
    let right = rw c.deref-in-Delay-2.ensures at (c.is_sequence-in-Delay-2.ensures yes) in
    rw c.in-Delay.is (is_delay at (c.has_count-in-Delay.ensures (search rules)) left right)

pub is_sequence-returns-in-Some-Assigned : goal.is_sequence-returns-in-Some-Assigned
is_sequence-returns-in-Some-Assigned t c =
    λ yes.
    let at-is : c.in-Some-Assigned.field-0 ≡ part.Assigned c.in-Some-Assigned.body c.in-Some-Assigned.field-0-1 =
    search rules in
    let at = part_as c.args.parts.now c.args.id c.in-Some-Assigned.field-0
    (part.Assigned c.in-Some-Assigned.body c.in-Some-Assigned.field-0-1) c.in-Some-Assigned.ensures at-is in
    is_assigned at (c.is_sequence-in-Some-Assigned.ensures yes)
