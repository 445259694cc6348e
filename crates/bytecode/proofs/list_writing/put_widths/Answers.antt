use Rattle.std.proofs.Common.{length}
use Rattle.bytecode.specs.Spelling.{two, byte}
use Rattle.bytecode.proofs.PutLaws.{put_next, put_all}
use Rattle.bytecode.proofs.list_writing.put_widths.Goals as goal

pub loop-width-preserved : goal.loop-width-preserved
loop-width-preserved c =
    put_next byte c.args.widths.now c.loop-width.width-index _ c.args.out.now.items (two (length c.args.widths.now))
    c.loop-width.out.items _ c.loop-width-test.true c.loop-width.invariant c.in_ok-push.ensures.items

pub returns : goal.returns
returns c =
    put_all byte c.args.widths.now c.loop-width.width-index c.args.out.now.items (two (length c.args.widths.now))
    c.loop-width.out.items c.loop-width-test.false c.loop-width.invariant
