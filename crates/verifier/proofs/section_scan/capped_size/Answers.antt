use Rattle.std.proofs.Common.{ap, arith}
use Rattle.verifier.specs.Sections.{instructions_in}
use Rattle.verifier.proofs.SectionLaws.{blocks_at}
use Rattle.verifier.proofs.section_scan.capped_size.Goals as goal

pub returns-then-more-gt4096 : goal.returns-then-more-gt4096
returns-then-more-gt4096 c =
    let e =
    ap instructions_in
    (blocks_at c.args.blocks.now c.each.p c.index-blocks-p.result c.each-test.true c.index-blocks-p.is)
    in
    omega (arith, e, c.each.invariant.left, c.len-more.ensures)

pub returns-then-size-gt4096 : goal.returns-then-size-gt4096
returns-then-size-gt4096 c =
    let e =
    ap instructions_in
    (blocks_at c.args.blocks.now c.each.p c.index-blocks-p.result c.each-test.true c.index-blocks-p.is)
    in
    omega (arith, e, c.each.invariant.left, c.len-more.ensures)

pub each-preserved : goal.each-preserved
each-preserved c =
    let e =
    ap instructions_in
    (blocks_at c.args.blocks.now c.each.p c.index-blocks-p.result c.each-test.true c.index-blocks-p.is)
    in
    record {
      left = omega (arith, e, c.each.invariant.left, c.len-more.ensures);
      few = omega arith;
    }
