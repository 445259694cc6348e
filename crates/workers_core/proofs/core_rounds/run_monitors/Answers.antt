use Rattle.std.proofs.Common.{◌∙◌}
use Rattle.workers_core.specs.declared.step.Step.TheVariants as steps
use Rattle.workers_core.proofs.CoreRoundLaws.{allows, Claimed, Through, Published}
use Rattle.workers_core.proofs.TurnLaws as turns
use Rattle.workers_core.proofs.core_rounds.run_monitors.Goals as goal

pub take-requires-clause-allowed : goal.take-requires-clause-allowed
take-requires-clause-allowed c =
    let first = c.args.core.now in
    let v = c.loop-monitor.core in
    let n = c.loop-monitor._monitor in
    let k = c.args.clocks in
    let inv = c.loop-monitor.invariant in
    let turn =
    turns.turn first v n k c.args.count c.requires.trace inv.job c.requires.count
    c.loop-monitor-test.true c.requires.clocks inv.behind inv.window in
    allows (Claimed n v.state) v (steps.Claim 0) (turns.claim-steps first v n k turn)

pub take-requires-in-loop-monitor-clause-allowed : goal.take-requires-in-loop-monitor-clause-allowed
take-requires-in-loop-monitor-clause-allowed c =
    let first = c.args.core.now in
    let v = c.loop-monitor.core in
    let n = c.loop-monitor._monitor in
    let k = c.args.clocks in
    let inv = c.loop-monitor.invariant in
    let turn =
    turns.turn first v n k c.args.count c.requires.trace inv.job c.requires.count
    c.loop-monitor-test.true c.requires.clocks inv.behind inv.window in
    let v1 = c.take.new.core in
    allows (Through n v1.state) v1 (steps.Advance 0 k)
    (turns.advance-steps first v n k turn v1 c.in_ok-take.ensures.led c.take.ensures.job
    c.follows_machine.ensures.follows)

pub take-requires-in-loop-monitor-2-clause-allowed :
    goal.take-requires-in-loop-monitor-2-clause-allowed
take-requires-in-loop-monitor-2-clause-allowed c =
    let first = c.args.core.now in
    let v = c.loop-monitor.core in
    let n = c.loop-monitor._monitor in
    let k = c.args.clocks in
    let inv = c.loop-monitor.invariant in
    let turn =
    turns.turn first v n k c.args.count c.requires.trace inv.job c.requires.count
    c.loop-monitor-test.true c.requires.clocks inv.behind inv.window in
    let v1 = c.take.new.core in
    let v2 = c.take-in-loop-monitor.new.core in
    allows (Published n v2.state) v2 (steps.Publish 0)
    (turns.publish-steps first v n k turn v1 c.in_ok-take.ensures.led c.take.ensures.job
    c.follows_machine.ensures.follows v2 c.in_ok-take-2.ensures.led
    c.take-in-loop-monitor.ensures.job)

pub loop-monitor-preserved : goal.loop-monitor-preserved
loop-monitor-preserved c =
    let first = c.args.core.now in
    let v = c.loop-monitor.core in
    let n = c.loop-monitor._monitor in
    let k = c.args.clocks in
    let inv = c.loop-monitor.invariant in
    let turn =
    turns.turn first v n k c.args.count c.requires.trace inv.job c.requires.count
    c.loop-monitor-test.true c.requires.clocks inv.behind inv.window in
    let v1 = c.take.new.core in
    let v2 = c.take-in-loop-monitor.new.core in
    record {
      job = c.take-in-loop-monitor-2.ensures.job ∙ c.take-in-loop-monitor.ensures.job
          ∙ c.take.ensures.job ∙ inv.job;
      size = c.take-in-loop-monitor-2.ensures.size ∙ c.take-in-loop-monitor.ensures.size
          ∙ c.take.ensures.size ∙ inv.size;
      behind = turns.done-more first v n k turn v1 c.in_ok-take.ensures.led c.take.ensures.job
          c.follows_machine.ensures.follows v2 c.in_ok-take-2.ensures.led
          c.take-in-loop-monitor.ensures.job c.take-in-loop-monitor-2.new.core
          c.in_ok-take-3.ensures.led c.take-in-loop-monitor-2.ensures.job;
      window = turns.window-kept first v n k turn v1 c.in_ok-take.ensures.led c.take.ensures.job
          c.follows_machine.ensures.follows v2 c.in_ok-take-2.ensures.led
          c.take-in-loop-monitor.ensures.job c.take-in-loop-monitor-2.new.core
          c.in_ok-take-3.ensures.led c.take-in-loop-monitor-2.ensures.job;
    }
