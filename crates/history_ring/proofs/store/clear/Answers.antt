use Rattle.std.proofs.Common.{◌∙◌}
use Rattle.history_ring.proofs.Fills.{zero_more}
use Rattle.history_ring.proofs.store.clear.Goals as goal

pub loop-index-preserved : goal.loop-index-preserved
loop-index-preserved c =
    let h = c.loop-index.invariant in (
      c.write.ensures.block.0 ∙ h.0,
      c.write.ensures.block.1 ∙ h.1,
      rw c.write.ensures.held (zero_more c.args.count c.loop-index.index
          c.args.places.now.held c.loop-index.places.held c.loop-index-test.true c.requires h.2),
    )
