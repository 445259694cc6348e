use Rattle.std.proofs.Common.{ap, arith, drop}
use Rattle.std.proofs.lemmas.List.{drop_more}
use Rattle.bytecode_programs.specs.declared.block_instr.BlockInstr.TheVariants.{Unless}
use Rattle.verifier.specs.Limits.{longest_entered}
use Rattle.verifier.proofs.lives.longest_entered.Goals as goal

pub block-preserved : goal.block-preserved
block-preserved c =
    let e =
    ap (longest_entered c.args.next (drop c.args.next c.args.lives.now))
    (drop_more c.args.block.now c.block.k (Unless 0 0) c.block-test.true) in
    record {
      left = omega (arith, e, c.block.invariant.left, c.max-most.ensures, c.entered_life.ensures.life);
      few = λ m all. let a =
          c.block.invariant.few m all in let b = c.entered_life.ensures.few m all in
          omega (arith, a, b, c.max-most.ensures);
    }
