use Rattle.std.proofs.Common.{[], ◌∷◌, map, ap, ◌∙◌}
use Rattle.std.proofs.lemmas.List.{map-append}
use Rattle.bytecode_programs.specs.Views.{slot_data}
use Rattle.compiler.specs.Parts.{slot_at}
use Rattle.compiler.proofs.Loops.{made-more, made-all}
use Rattle.compiler.proofs.slots.signal_slots.Goals as goal

pub loop-place-init : goal.loop-place-init
loop-place-init c = ap (map slot_data) c.new-slots.ensures.items

pub loop-place-preserved : goal.loop-place-preserved
loop-place-preserved c =
    made-more (slot_at c.args.signals.now) c.args.places.now c.loop-place.place-index
    (map slot_data c.loop-place.slots.items) (map slot_data c.push.new.self.items)
    (slot_data c.in_ok-slot_at.field-0) c.loop-place-test.true c.loop-place.invariant c.in_ok-slot_at.ensures
    (ap (map slot_data) c.in_ok-push.ensures.items
    ∙ map-append slot_data c.loop-place.slots.items (c.in_ok-slot_at.field-0 ∷ []))

pub returns : goal.returns
returns c =
    c.loop-place.invariant ∙ made-all (slot_at c.args.signals.now) c.args.places.now c.loop-place.place-index
    c.loop-place-test.false
