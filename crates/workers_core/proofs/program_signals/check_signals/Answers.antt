use Rattle.std.proofs.Common.{◌∙◌, ◌<◌, length, arith}
use Rattle.vcd_reader.specs.Held.{variables_of}
use Rattle.cycle_window.proofs.BoundLaws.{refused-more}
use Rattle.workers_core.proofs.program_signals.check_signals.Goals as goal

pub loop-signal-preserved : goal.loop-signal-preserved
loop-signal-preserved c =
    let lt : c.loop-signal.signal-index < length c.args.signals.now = omega arith in
    c.loop-signal.invariant
    ∙ refused-more (variables_of c.args.dump.now) c.args.signals.now c.loop-signal.signal-index
    _ lt c.in_ok-check_signal.ensures.fits
