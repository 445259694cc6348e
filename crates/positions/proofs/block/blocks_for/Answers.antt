use Rattle.std.proofs.Common.{◌+◌, arith}
use Rattle.positions.proofs.BlockLaws.{are-next}
use Rattle.positions.proofs.block.blocks_for.Goals as goal

pub loop-row-preserved : goal.loop-row-preserved
loop-row-preserved c =
    are-next c.args.rows.now c.loop-row.row-index c.row-item.result c.loop-row.base
    (c.loop-row.base + c.len-base.result) c.loop-row.blocks.items
    c.push.new.self.items c.in_ok-block.block c.deref.result.now c.loop-row-test.true c.row-item.is c.loop-row.invariant
    c.deref.ensures.value c.in_ok-block.ensures
    (omega (arith, c.len-base.ensures)) c.in_ok-push.ensures.items
