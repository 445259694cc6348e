use Rattle.std.proofs.Common.{◌∙◌, ap, string_bytes}
use Rattle.assertions.specs.Shapes.{written_form}
use Rattle.types.specs.Made.{kept_of}
use Rattle.types.proofs.MadeLaws.{side_on, side_here, places_used, list_whole, assertion_made}
use Rattle.types.proofs.typed_assertions.assertion_of.Goals as goal

pub returns : goal.returns
returns c = λ s columns booleans bodies before a r.
    let made = c.in-Some.ensures in
    let start = c.new-places.result.items in
    let first = c.side_of.new.places.items in
    let second = c.side_of-2.new.places.items in
    let third = c.disabling_of.new.places.items in
    let v = r.antecedent_entry.meant in
    let w = r.consequent_entry.meant in
    let before_arrow = c.in_ok-antecedent.ensures in
    let behind_arrow = c.in_ok-consequent.ensures in
    let off = c.in_ok-disabling.ensures in
    let kept = kept_of c.args.resolved.now.antecedent in
    let held = kept_of c.args.resolved.now.consequent in
    let one = written_form c.in_ok-antecedent.antecedent.value in
    let two = written_form c.in_ok-consequent.consequent.value in
    assertion_made s columns booleans bodies before a c.args.resolved.now r c.in-Some.assertion
    one two kept held c.in_ok-disabling.disabling third
    (ap string_bytes made.0 ∙ c.in_ok-name.ensures.ok ∙ c.as_str.ensures.value) made.1
    (ap written_form (made.2 ∙ c.into_inner.ensures))
    (ap written_form (made.3 ∙ c.into_inner-2.ensures)) made.4 (ap (λ v. v.items) made.5)
    (side_on booleans v kept one first second third behind_arrow.grows off.grows
    (λ more. before_arrow.meant booleans more v r.antecedent_entry.entry))
    (side_here booleans w held two second third off.grows
    (λ more. behind_arrow.meant booleans more w r.consequent_entry.entry))
    (off.placed booleans)
    (places_used start first second third v w c.args.resolved.now.disabling c.new-places.ensures.items
    (before_arrow.used v r.antecedent_entry.entry) (behind_arrow.used w r.consequent_entry.entry)
    off.used)
    (list_whole start first second third kept held c.args.resolved.now.disabling c.new-places.ensures.items
    before_arrow.list behind_arrow.list off.list)
