use Rattle.std.proofs.Common.{◌≡◌, ◌-◌, ℕ, Some, ◌+◌, ap, arith, ◌∙◌}
use Rattle.std.proofs.Math.ListN.{drop_of_length-le}
use Rattle.lexer.proofs.CutLaws.{later, comment-more, comment-none, comment-here}
use Rattle.lexer.proofs.scan.close_of.Goals as goal

pub loop-at-preserved : goal.loop-at-preserved
loop-at-preserved c = record {
  low = omega arith;
  high = omega arith;
  same =
      comment-more c.args.bytes.now c.loop-at.at c.loop-at-test.true _ c.args.start c.loop-at.invariant.low
      c.if-is_pair.ensures.value c.loop-at.invariant.same;
}

pub returns-clause-value : goal.returns-clause-value
returns-clause-value c =
    c.loop-at.invariant.same ∙ ap (later _) (comment-none _ (drop_of_length-le c.args.bytes.now c.loop-at-test.false))

pub returns-then-is_pair-clause-value : goal.returns-then-is_pair-clause-value
returns-then-is_pair-clause-value c =
    let sum : c.loop-at.at - c.args.start + 2 ≡ c.loop-at.at + 2 - c.args.start = omega arith in
    c.loop-at.invariant.same
    ∙ ap (later _) (comment-here c.args.bytes.now c.loop-at.at c.loop-at-test.true c.if-is_pair.ensures.value)
    ∙ ap (λ (n : ℕ). Some n) sum
