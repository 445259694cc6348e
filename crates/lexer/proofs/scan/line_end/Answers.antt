use Rattle.std.proofs.Common.{drop, ap, arith, not}
use Rattle.std.proofs.lemmas.Bool.{eq-eqb, ne_eqb}
use Rattle.std.proofs.Math.ListN.{drop_of_length-le}
use Rattle.lexer.specs.Cutting.{stays_on_line}
use Rattle.lexer.proofs.LongestLaws.{run-step, run-stop, run-none}
use Rattle.lexer.proofs.scan.line_end.Goals as goal

pub loop-at-preserved : goal.loop-at-preserved
loop-at-preserved c = record {
  low = omega arith;
  high = omega arith;
  run = omega (
    arith,
    c.loop-at.invariant.run,
    run-step stays_on_line c.args.bytes.now c.loop-at.at c.loop-at-test.true
        (ap not (ne_eqb _ 10 c.if-bytes-at-ne10.true)),
  );
}

pub returns-else-bytes-at-ne10-clause-run : goal.returns-else-bytes-at-ne10-clause-run
returns-else-bytes-at-ne10-clause-run c =
    omega (
      arith,
      c.loop-at.invariant.run,
      run-stop stays_on_line c.args.bytes.now c.loop-at.at c.loop-at-test.true
          (ap not (eq-eqb _ 10 c.if-bytes-at-ne10.false)),
    )

pub returns-after-loop-at-clause-run : goal.returns-after-loop-at-clause-run
returns-after-loop-at-clause-run c =
    omega (
      arith,
      c.loop-at.invariant.run,
      run-none stays_on_line (drop c.loop-at.at c.args.bytes.now)
          (drop_of_length-le c.args.bytes.now c.loop-at-test.false),
    )
