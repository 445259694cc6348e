use Rattle.std.proofs.Common.{◌≡◌, ◌+◌, List, ◌∷◌, drop, ap, sym, ◌∙◌, arith}
use Rattle.bytecode_programs.specs.declared.block_instr.BlockInstr.{BlockInstr}
use Rattle.verifier.specs.Sections.{instructions_in}
use Rattle.verifier.specs.Limits.{path_sum}
use Rattle.verifier.specs.Views.{blocks_of}
use Rattle.verifier.proofs.SectionLaws.{blocks_at}
use Rattle.verifier.proofs.paths.path_sum.Goals as goal

pub block_path-requires : goal.block_path-requires
block_path-requires c =
    let block : drop c.each.p (blocks_of c.args.blocks.now) ≡ c.as_slice-block.result.now ∷ drop (c.each.p + 1)
    (blocks_of c.args.blocks.now) =
    blocks_at c.args.blocks.now c.each.p c.index-blocks-p.result c.each-test.true c.index-blocks-p.is
    ∙ ap (λ (b : List BlockInstr). b ∷ drop (c.each.p + 1) (blocks_of c.args.blocks.now))
    (sym c.as_slice-block.ensures.value) in
    omega (arith, c.each.invariant.size, ap instructions_in block)

pub each-preserved : goal.each-preserved
each-preserved c =
    let block : drop c.each.p (blocks_of c.args.blocks.now) ≡ c.as_slice-block.result.now ∷ drop (c.each.p + 1)
    (blocks_of c.args.blocks.now) =
    blocks_at c.args.blocks.now c.each.p c.index-blocks-p.result c.each-test.true c.index-blocks-p.is
    ∙ ap (λ (b : List BlockInstr). b ∷ drop (c.each.p + 1) (blocks_of c.args.blocks.now))
    (sym c.as_slice-block.ensures.value) in
    record {
      left = omega (arith, c.each.invariant.left, ap (path_sum c.each.base) block, c.in_ok-sum.ensures.path);
      size = omega (arith, c.each.invariant.size, ap instructions_in block);
      few = omega (arith, c.each.invariant.few, c.in_ok-sum.ensures.few);
    }
