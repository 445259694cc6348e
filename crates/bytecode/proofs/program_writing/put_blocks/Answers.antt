use Rattle.bytecode.proofs.FitLaws.{block-few}
use Rattle.bytecode.proofs.program_writing.put_blocks.Goals as goal

pub put_block-requires : goal.put_block-requires
put_block-requires c =
    rw (c.as_slice.ensures.value, c.block-item.is)
    (block-few c.args.blocks.now c.loop-block.block-index _ c.loop-block-test.true c.requires)
