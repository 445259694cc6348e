use Rattle.std.proofs.Common.{◌∙◌}
use Rattle.compiler.specs.Parts.{width_at}
use Rattle.compiler.proofs.Loops.{made-more, made-all}
use Rattle.compiler.proofs.slots.counter_widths.Goals as goal

pub loop-place-init : goal.loop-place-init
loop-place-init c = c.new-widths.ensures.items

pub loop-place-preserved : goal.loop-place-preserved
loop-place-preserved c =
    made-more (width_at c.args.counters.now) c.args.places.now c.loop-place.place-index c.loop-place.widths.items
    c.push.new.self.items
    c.width_at.result c.loop-place-test.true c.loop-place.invariant c.width_at.ensures c.in_ok-push.ensures.items

pub returns : goal.returns
returns c =
    c.loop-place.invariant ∙ made-all (width_at c.args.counters.now) c.args.places.now c.loop-place.place-index
    c.loop-place-test.false
