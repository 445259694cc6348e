use Rattle.std.proofs.Common.{◌≡◌, ◌+◌, ◌-◌, ◌<◌, ◌≤◌, ℕ, List, ◌∷◌, length, drop, ap, sym, ◌∙◌}
use Rattle.std.proofs.Common.{arith}
use Rattle.std.proofs.lemmas.List.{length-set}
use Rattle.bytecode_programs.specs.declared.block_instr.BlockInstr.{BlockInstr}
use Rattle.verifier.specs.Views.{blocks_of}
use Rattle.verifier.proofs.SectionLaws.{blocks_at}
use Rattle.verifier.proofs.LimitLaws.{lives_step, few_step}
use Rattle.verifier.proofs.lives.fill_lives.Goals as goal

pub blocks_left-preserved : goal.blocks_left-preserved
blocks_left-preserved c =
    let k = c.blocks_left.k in
    let lives = c.blocks_left.lives in
    let bs = blocks_of c.args.blocks.now in
    let inv = c.blocks_left.invariant in
    let p_below : k - 1 < length c.args.blocks.now = omega (arith, c.blocks_left-test.true, inv.low) in
    let below : k - 1 < length lives = omega (arith, p_below, inv.long) in
    let next : k ≡ k - 1 + 1 = omega (arith, c.blocks_left-test.true) in
    let block : drop (k - 1) bs ≡ c.as_slice.result.now ∷ drop (k - 1 + 1) bs =
    blocks_at c.args.blocks.now (k - 1) c.index-blocks-k.result p_below c.index-blocks-k.is
    ∙ ap (λ (b : List BlockInstr). b ∷ drop (k - 1 + 1) bs) (sym c.as_slice.ensures.value) in
    let most = c.longest_entered-life.ensures.few (length c.args.blocks.now - k) inv.few in
    let life : 1 + c.longest_entered-life.result ≤ length c.args.blocks.now - (k - 1) =
    omega (arith, most, c.blocks_left-test.true, inv.low) in
    record {
      left =
          lives_step lives bs k (k - 1) (1 + c.longest_entered-life.result) c.as_slice.result.now next below inv.left
          block (ap (λ (n : ℕ). 1 + n) c.longest_entered-life.ensures.life);
      long = length-set lives (k - 1) (1 + c.longest_entered-life.result) ∙ inv.long;
      low = omega (arith, inv.low);
      few = few_step lives (k - 1) (1 + c.longest_entered-life.result) (length c.args.blocks.now - (k - 1)) below life
          (λ j. let f = inv.few j in omega (arith, f));
    }
