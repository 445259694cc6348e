use Rattle.std.proofs.Common.{◌-◌, refl}
use Rattle.verifier.specs.Views.{blocks_of}
use Rattle.machine.specs.Records.{made_by}
use Rattle.machine.proofs.RunLaws.{block-is, block-next, block-end, some_left}
use Rattle.machine.proofs.block.run_block.Goals as goal

pub overflow_sub-left : goal.overflow_sub-left
overflow_sub-left c =
    some_left (blocks_of c.args.blocks.now) c.args.p c.args.base c.args.atoms.now c.as_slice-block.result.now
    (block-is (λ b. b.items) c.args.blocks.now c.args.p c.index-blocks-p.result c.as_slice-block.result.now
    c.requires.there c.index-blocks-p.is c.as_slice-block.ensures.value)
    c.args.left.now (made_by c.args.visit.now) c.requires.finishes c.loop-next.left c.loop-next.pc
    (made_by c.loop-next.visit) c.loop-next.invariant

pub loop-next-preserved : goal.loop-next-preserved
loop-next-preserved c =
    block-next (blocks_of c.args.blocks.now) c.args.p c.args.base c.args.atoms.now c.as_slice-block.result.now
    (block-is (λ b. b.items) c.args.blocks.now c.args.p c.index-blocks-p.result c.as_slice-block.result.now
    c.requires.there c.index-blocks-p.is c.as_slice-block.ensures.value)
    c.args.left.now (made_by c.args.visit.now) c.requires.finishes c.loop-next.left c.loop-next.pc
    (made_by c.loop-next.visit) c.loop-next.invariant
    c.in-Some.next (c.loop-next.left - 1) (made_by c.obey.new.visit) c.in-Some.ensures.leads c.in-Some.ensures.makes
    refl

pub returns-in-None : goal.returns-in-None
returns-in-None c =
    block-end (blocks_of c.args.blocks.now) c.args.p c.args.base c.args.atoms.now c.as_slice-block.result.now
    (block-is (λ b. b.items) c.args.blocks.now c.args.p c.index-blocks-p.result c.as_slice-block.result.now
    c.requires.there c.index-blocks-p.is c.as_slice-block.ensures.value)
    c.args.left.now (made_by c.args.visit.now) c.requires.finishes c.loop-next.left c.loop-next.pc
    (made_by c.loop-next.visit) c.loop-next.invariant
    (c.loop-next.left - 1) (made_by c.obey.new.visit) c.in-None.ensures.leads c.in-None.ensures.makes refl
