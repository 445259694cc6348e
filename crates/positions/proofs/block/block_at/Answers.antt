use Rattle.positions.proofs.BlockLaws.{begun-next}
use Rattle.positions.proofs.block.block_at.Goals as goal

pub loop-edge-preserved : goal.loop-edge-preserved
loop-edge-preserved c =
    begun-next c.args.base c.args.row.now c.loop-edge.edge-index c.edge-item.result c.loop-edge.block.items
    c.put_edge.new.block.items
    c.loop-edge-test.true c.edge-item.is c.loop-edge.invariant c.in_ok-put_edge.ensures
