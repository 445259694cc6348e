use Rattle.std.proofs.Common.{◌≡◌, ◌<◌, ◌-◌, ℕ, get_or, subst, ◌+◌, drop, sym, arith}
use Rattle.std.proofs.Math.ListN.{drop_of_length-le}
use Rattle.lexer.specs.Runs.{is_part}
use Rattle.lexer.proofs.LongestLaws.{run-step, run-stop, run-none}
use Rattle.lexer.proofs.longest.run_end.Goals as goal

pub loop-at-preserved : goal.loop-at-preserved
loop-at-preserved c = record {
  low = omega arith;
  high = omega arith;
  ascii =
      λ some. let same : c.loop-at.at + 1 - 1 ≡ c.loop-at.at = omega arith in
      subst (λ (i : ℕ). get_or c.args.bytes.now i 0 < 128) (sym same) c.if-is_part.ensures.ascii;
  run = omega (
    arith,
    c.loop-at.invariant.run,
    run-step (is_part c.args.part) c.args.bytes.now c.loop-at.at c.loop-at-test.true
        (sym c.if-is_part.ensures.value),
  );
}

pub returns-else-is_part-clause-run : goal.returns-else-is_part-clause-run
returns-else-is_part-clause-run c =
    omega (
      arith,
      c.loop-at.invariant.run,
      run-stop (is_part c.args.part) c.args.bytes.now c.loop-at.at c.loop-at-test.true (sym c.if-is_part.ensures.value),
    )

pub returns-after-loop-at-clause-run : goal.returns-after-loop-at-clause-run
returns-after-loop-at-clause-run c =
    omega (
      arith,
      c.loop-at.invariant.run,
      run-none (is_part c.args.part) (drop c.loop-at.at c.args.bytes.now)
          (drop_of_length-le c.args.bytes.now c.loop-at-test.false),
    )
