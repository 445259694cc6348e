use Rattle.std.proofs.Common.{rules, ◌≡◌, ◌++◌, ◌∷◌, [], length, sym, ◌∙◌}
use Rattle.parser_grammar.specs.Views.{sequence_of}
use Rattle.import_properties.specs.Shapes.{written_form}
use Rattle.import_text.specs.Outlines.{outline, spelled_outline, least_of, most_of, joined_by}
use Rattle.import_text.proofs.OutlineLaws.{tree-boolean, like-repeated, like-late, like-throughout, like-delayed}
use Rattle.import_text.proofs.OutlineLaws.{like-joined, like-delay, like-sides, delays-none, sides-none}
use Rattle.import_text.proofs.OutlineLaws.{written-boolean, written-repeat, written-lead, written-throughout}
use Rattle.import_text.proofs.OutlineLaws.{written-delay}
use Rattle.import_text.proofs.outline.+outlines.Goals as goal

pub has_delays-returns-in_default : goal.has_delays-returns-in_default
has_delays-returns-in_default t c =
    λ yes. let none : length c.args.steps.now ≡ 0 = search rules in
    delays-none (spelled_outline (sequence_of c.args.first.now)) c.args.steps.now none ∙ c.has_outline.ensures yes

pub has_delays-returns-else-not-has_delays : goal.has_delays-returns-else-not-has_delays
has_delays-returns-else-not-has_delays t c =
    λ yes. let x = c.in-Some.field-0-0.now in
    let is : c.args.steps.now ≡ c.in-Some.before.now ++ x ∷ [] = search rules in
    let low : least_of x.0 ≡ c.in-Delay.least = search rules in
    let high : most_of x.0 ≡ c.in-Delay.most = search rules in
    let front = c.has_delays.ensures (search rules) in
    let last : spelled_outline (sequence_of x.1) ≡ outline (written_form c.deref-in-Delay.result.now) = search rules in
    like-delay (spelled_outline (sequence_of c.args.first.now)) c.args.steps.now c.in-Some.before.now x
    (outline (written_form c.deref.result.now)) (outline (written_form c.deref-in-Delay.result.now)) c.in-Delay.least
    c.in-Delay.most is low high front last
    ∙ sym
    (written-delay c.args.sequence.now c.in-Delay.left c.in-Delay.least c.in-Delay.most c.in-Delay.right
    c.deref.result.now c.deref-in-Delay.result.now c.in-Delay.is c.deref.ensures c.deref-in-Delay.ensures)

pub has_outline-returns-in-Boolean-matches : goal.has_outline-returns-in-Boolean-matches
has_outline-returns-in-Boolean-matches t c =
    λ yes. tree-boolean c.args.tree.now c.in-Boolean.field-0 c.in-Boolean.is
    ∙ sym (written-boolean c.args.sequence.now c.in-Boolean-matches.field-0 c.in-Boolean-matches.is)

pub has_outline-returns-else-not-has_bounds : goal.has_outline-returns-else-not-has_bounds
has_outline-returns-else-not-has_bounds t c =
    λ yes. let low : least_of c.in-Repeated.range ≡ c.in-Repeat.least = search rules in
    let high : most_of c.in-Repeated.range ≡ c.in-Repeat.most = search rules in
    like-repeated c.args.tree.now c.in-Repeated.body c.in-Repeated.range c.deref.result.now
    (outline (written_form c.deref-in-Repeat.result.now)) c.in-Repeat.least c.in-Repeat.most c.in-Repeated.is
    c.deref.ensures low high (c.has_outline.ensures yes)
    ∙ sym
    (written-repeat c.args.sequence.now c.in-Repeat.inner c.in-Repeat.least c.in-Repeat.most
    c.deref-in-Repeat.result.now c.in-Repeat.is c.deref-in-Repeat.ensures)

pub has_outline-returns-else-not-has_bounds-2 : goal.has_outline-returns-else-not-has_bounds-2
has_outline-returns-else-not-has_bounds-2 t c =
    λ yes. let low : least_of c.in-Late.range ≡ c.in-Lead.least = search rules in
    let high : most_of c.in-Late.range ≡ c.in-Lead.most = search rules in
    like-late c.args.tree.now c.in-Late.field-0 c.in-Late.range c.in-Late.body c.deref-in-Lead.result.now
    (outline (written_form c.deref-in-Lead-2.result.now)) c.in-Lead.least c.in-Lead.most c.in-Late.is
    c.deref-in-Lead.ensures low high (c.has_outline-in-Lead.ensures yes)
    ∙ sym
    (written-lead c.args.sequence.now c.in-Lead.least c.in-Lead.most c.in-Lead.inner c.deref-in-Lead-2.result.now
    c.in-Lead.is c.deref-in-Lead-2.ensures)

pub has_outline-returns-in-Throughout-sequence : goal.has_outline-returns-in-Throughout-sequence
has_outline-returns-in-Throughout-sequence t c =
    λ yes. let k = c.in-Throughout-sequence in
    like-throughout c.args.tree.now c.in-Throughout.field-0 c.in-Throughout.body
    c.deref-in-Throughout-sequence.result.now
    (outline (written_form c.deref-in-Throughout-sequence-2.result.now)) c.in-Throughout.is
    c.deref-in-Throughout-sequence.ensures (c.has_outline-in-Throughout-sequence.ensures yes)
    ∙ sym
    (written-throughout c.args.sequence.now k.field-0 k.inner c.deref-in-Throughout-sequence-2.result.now k.is
    c.deref-in-Throughout-sequence-2.ensures)

pub has_outline-returns-in-Delayed : goal.has_outline-returns-in-Delayed
has_outline-returns-in-Delayed t c =
    λ yes. like-delayed c.args.tree.now c.in-Delayed.first c.in-Delayed.steps c.deref-in-Delayed.result.now
    c.as_slice.result.now (outline (written_form c.args.sequence.now)) c.in-Delayed.is c.deref-in-Delayed.ensures
    c.as_slice.ensures.value (c.has_delays.ensures yes)

pub has_outline-returns-in-Joined : goal.has_outline-returns-in-Joined
has_outline-returns-in-Joined t c =
    λ yes. like-joined c.args.tree.now c.in-Joined.junction c.in-Joined.first c.in-Joined.others
    c.deref-in-Joined.result.now c.as_slice-in-Joined.result.now (outline (written_form c.args.sequence.now))
    c.in-Joined.is c.deref-in-Joined.ensures c.as_slice-in-Joined.ensures.value (c.has_sides.ensures yes)

pub has_sides-returns-in_default : goal.has_sides-returns-in_default
has_sides-returns-in_default t c =
    λ yes. let none : length c.args.others.now ≡ 0 = search rules in
    sides-none c.args.junction (spelled_outline (sequence_of c.args.first.now)) c.args.others.now none
    ∙ c.has_outline.ensures yes

pub has_sides-returns-else-not-has_sides : goal.has_sides-returns-else-not-has_sides
has_sides-returns-else-not-has_sides t c =
    λ yes. let x = c.in-Some.last.now in
    let left = outline (written_form c.in-Some-sides_of.left.now) in
    let right = outline (written_form c.in-Some-sides_of.right.now) in
    let is : c.args.others.now ≡ c.in-Some.before.now ++ x ∷ [] = search rules in
    let front = c.has_sides.ensures (search rules) in
    let sides : outline (written_form c.args.sequence.now) ≡ joined_by c.args.junction left right = search rules in
    like-sides c.args.junction (spelled_outline (sequence_of c.args.first.now)) c.args.others.now c.in-Some.before.now
    x left right is front (c.has_outline-in-Some-sides_of.ensures yes)
    ∙ sym sides
