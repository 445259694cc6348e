use Rattle.assertions.specs.Shapes.{written_form}
use Rattle.types.specs.Placed.{ArePlaced}
use Rattle.types.proofs.PlacedLaws.{in_box, are_boolean, are_lead, are_repeat, are_delay, are_or, are_and}
use Rattle.types.proofs.PlacedLaws.{are_intersect}
use Rattle.types.proofs.PlacedLaws.{are_throughout}
use Rattle.types.proofs.places.+placed.Goals as goal

pub returns-in_ok-boolean-in-Boolean : goal.returns-in_ok-boolean-in-Boolean
returns-in_ok-boolean-in-Boolean t c =
    let e = c.in_ok-boolean-in-Boolean.ensures in
    in_box c.boxed.result _
    (λ u. ArePlaced c.args.places.now.items c.place_boolean.new.places.items (written_form c.args.sequence.now) u)
    (rw c.in-Boolean.is
    (are_boolean c.args.places.now.items c.place_boolean.new.places.items c.in-Boolean.boolean
    c.in_ok-boolean-in-Boolean.boolean e.grows e.placed e.listed e.own e.list e.form))
    c.boxed.ensures

pub returns-in_ok-second-in-Delay : goal.returns-in_ok-second-in-Delay
returns-in_ok-second-in-Delay t c =
    let first = rw c.deref.ensures at c.in_ok-first-in-Delay.ensures in
    let second = rw c.deref-in-Delay.ensures at c.in_ok-second-in-Delay.ensures in
    in_box c.boxed-in-Delay.result _
    (λ u. ArePlaced c.args.places.now.items c.placed-in-Delay.new.places.items (written_form c.args.sequence.now) u)
    (rw c.in-Delay.is
    (are_delay c.args.places.now.items c.placed.new.places.items c.placed-in-Delay.new.places.items
    (written_form c.in-Delay.first.value) (written_form c.in-Delay.second.value)
    (written_form c.in_ok-first-in-Delay.first.value) (written_form c.in_ok-second-in-Delay.second.value)
    first second c.in-Delay.least c.in-Delay.most))
    c.boxed-in-Delay.ensures

pub returns-in_ok-body-in-Lead : goal.returns-in_ok-body-in-Lead
returns-in_ok-body-in-Lead t c =
    let body = rw c.deref-in-Lead.ensures at c.in_ok-body-in-Lead.ensures in
    in_box c.boxed-in-Lead.result _
    (λ u. ArePlaced c.args.places.now.items c.placed-in-Lead.new.places.items (written_form c.args.sequence.now) u)
    (rw c.in-Lead.is
    (are_lead c.args.places.now.items c.placed-in-Lead.new.places.items (written_form c.in-Lead.body.value)
    (written_form c.in_ok-body-in-Lead.body.value) c.in-Lead.least c.in-Lead.most body))
    c.boxed-in-Lead.ensures

pub returns-in_ok-body-in-Repeat : goal.returns-in_ok-body-in-Repeat
returns-in_ok-body-in-Repeat t c =
    let body = rw c.deref-in-Repeat.ensures at c.in_ok-body-in-Repeat.ensures in
    in_box c.boxed-in-Repeat.result _
    (λ u. ArePlaced c.args.places.now.items c.placed-in-Repeat.new.places.items (written_form c.args.sequence.now) u)
    (rw c.in-Repeat.is
    (are_repeat c.args.places.now.items c.placed-in-Repeat.new.places.items (written_form c.in-Repeat.body.value)
    (written_form c.in_ok-body-in-Repeat.body.value) c.in-Repeat.least c.in-Repeat.most body))
    c.boxed-in-Repeat.ensures

pub returns-in_ok-second-in-Or : goal.returns-in_ok-second-in-Or
returns-in_ok-second-in-Or t c =
    let first = rw c.deref-in-Or.ensures at c.in_ok-first-in-Or.ensures in
    let second = rw c.deref-in-Or-2.ensures at c.in_ok-second-in-Or.ensures in
    in_box c.boxed-in-Or.result _
    (λ u. ArePlaced c.args.places.now.items c.placed-in-Or-2.new.places.items (written_form c.args.sequence.now) u)
    (rw c.in-Or.is
    (are_or c.args.places.now.items c.placed-in-Or.new.places.items c.placed-in-Or-2.new.places.items
    (written_form c.in-Or.first.value) (written_form c.in-Or.second.value)
    (written_form c.in_ok-first-in-Or.first.value) (written_form c.in_ok-second-in-Or.second.value)
    first second))
    c.boxed-in-Or.ensures

pub returns-in_ok-second-in-And : goal.returns-in_ok-second-in-And
returns-in_ok-second-in-And t c =
    let first = rw c.deref-in-And.ensures at c.in_ok-first-in-And.ensures in
    let second = rw c.deref-in-And-2.ensures at c.in_ok-second-in-And.ensures in
    in_box c.boxed-in-And.result _
    (λ u. ArePlaced c.args.places.now.items c.placed-in-And-2.new.places.items (written_form c.args.sequence.now) u)
    (rw c.in-And.is
    (are_and c.args.places.now.items c.placed-in-And.new.places.items c.placed-in-And-2.new.places.items
    (written_form c.in-And.first.value) (written_form c.in-And.second.value)
    (written_form c.in_ok-first-in-And.first.value) (written_form c.in_ok-second-in-And.second.value)
    first second))
    c.boxed-in-And.ensures

pub returns-in_ok-second-in-Intersect : goal.returns-in_ok-second-in-Intersect
returns-in_ok-second-in-Intersect t c =
    let first = rw c.deref-in-Intersect.ensures at c.in_ok-first-in-Intersect.ensures in
    let second = rw c.deref-in-Intersect-2.ensures at c.in_ok-second-in-Intersect.ensures in
    in_box c.boxed-in-Intersect.result _
    (λ u. ArePlaced c.args.places.now.items c.placed-in-Intersect-2.new.places.items
    (written_form c.args.sequence.now) u)
    (rw c.in-Intersect.is
    (are_intersect c.args.places.now.items c.placed-in-Intersect.new.places.items
    c.placed-in-Intersect-2.new.places.items
    (written_form c.in-Intersect.first.value) (written_form c.in-Intersect.second.value)
    (written_form c.in_ok-first-in-Intersect.first.value) (written_form c.in_ok-second-in-Intersect.second.value)
    first second))
    c.boxed-in-Intersect.ensures

pub returns-in_ok-body-in-Throughout : goal.returns-in_ok-body-in-Throughout
returns-in_ok-body-in-Throughout t c =
    let e = c.in_ok-boolean-in-Throughout.ensures in
    let body = rw c.deref-in-Throughout.ensures at c.in_ok-body-in-Throughout.ensures in
    in_box c.boxed-in-Throughout.result _
    (λ u. ArePlaced c.args.places.now.items c.placed-in-Throughout.new.places.items
    (written_form c.args.sequence.now) u)
    (rw c.in-Throughout.is
    (are_throughout c.args.places.now.items c.place_boolean-in-Throughout.new.places.items
    c.placed-in-Throughout.new.places.items
    c.in-Throughout.boolean c.in_ok-boolean-in-Throughout.boolean (written_form c.in-Throughout.body.value)
    (written_form c.in_ok-body-in-Throughout.body.value) e.grows e.placed e.listed e.own e.list e.form
    body))
    c.boxed-in-Throughout.ensures
