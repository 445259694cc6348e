use Rattle.std.proofs.Common.{length}
use Rattle.bytecode.specs.Spelling.{two, sample_spelling}
use Rattle.bytecode.proofs.PutLaws.{put_next, put_all}
use Rattle.bytecode.proofs.list_writing.put_samples.Goals as goal

pub loop-instr-preserved : goal.loop-instr-preserved
loop-instr-preserved c =
    put_next sample_spelling c.args.sample.now c.loop-instr.instr-index _ c.args.out.now.items
    (two (length c.args.sample.now)) c.loop-instr.out.items _ c.loop-instr-test.true c.loop-instr.invariant
    c.in_ok-put_sample.ensures

pub returns : goal.returns
returns c =
    put_all sample_spelling c.args.sample.now c.loop-instr.instr-index c.args.out.now.items
    (two (length c.args.sample.now)) c.loop-instr.out.items c.loop-instr-test.false c.loop-instr.invariant
