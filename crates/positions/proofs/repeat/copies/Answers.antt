use Rattle.std.proofs.Common.{length}
use Rattle.positions.proofs.CopyLaws.{copied-more}
use Rattle.positions.proofs.repeat.copies.Goals as goal

pub loop-copy-preserved : goal.loop-copy-preserved
loop-copy-preserved c =
    copied-more c.loop-copy.list.items c.put_moved.new.list.items c.starts.result.now c.args.body.now.starts
    c.len.result (length c.args.body.now.rows) c.args.first c.loop-copy.copy
    c.in_ok-put_moved.ensures c.starts.ensures c.len.ensures c.loop-copy.invariant c.loop-copy.auto.copy
