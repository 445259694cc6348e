use Rattle.std.proofs.Common.{arith}
use Rattle.signals.specs.declared.verdict.Verdict.TheVariants as outcome
use Rattle.assertions.specs.Verdicts.{IsVerdictOver}
use Rattle.report_suites.proofs.PushLaws.{each_pushed}
use Rattle.report_suites.proofs.lines.verdicts_of.Goals as goal

pub loop-tick-preserved : goal.loop-tick-preserved
loop-tick-preserved c = record {
  long = omega (arith, c.in_ok-push.ensures.len, c.loop-tick.invariant.long);
  each = each_pushed (IsVerdictOver c.args.suite.now c.args.rows.now.signals c.args.assertion.now)
      c.loop-tick.verdicts.items c.push.new.self.items c.in_ok-judge.field-0 outcome.Open
      c.loop-tick.tick
      c.in_ok-push.ensures.items c.loop-tick.invariant.long c.loop-tick.invariant.each
      c.in_ok-judge.ensures;
}
