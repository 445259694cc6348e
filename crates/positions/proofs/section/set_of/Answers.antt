use Rattle.std.specs.Int.Bits.{or_zero_r}
use Rattle.positions.specs.Sections.{bits}
use Rattle.positions.proofs.BlockLaws.{bits-next}
use Rattle.positions.proofs.section.set_of.Goals as goal

pub loop-position-init : goal.loop-position-init
loop-position-init c = or_zero_r (bits c.args.positions.now)

pub loop-position-preserved : goal.loop-position-preserved
loop-position-preserved c =
    bits-next c.args.positions.now c.loop-position.position-index c.loop-position.set c.loop-position-test.true
    (c.requires c.loop-position.position-index 0 c.loop-position-test.true) c.loop-position.invariant
