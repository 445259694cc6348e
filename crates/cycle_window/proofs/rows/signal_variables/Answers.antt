use Rattle.std.proofs.Common.{◌∙◌, ◌<◌, length, arith}
use Rattle.vcd_reader.specs.Held.{variables_of}
use Rattle.cycle_window.proofs.BoundLaws.{places-more, bindable-more, refused-more}
use Rattle.cycle_window.proofs.rows.signal_variables.Goals as goal

pub loop-signal-preserved : goal.loop-signal-preserved
loop-signal-preserved c =
    let lt : c.loop-signal.signal-index < length c.args.signals.now = omega arith in
    record {
      places = places-more (variables_of c.args.dump.now) c.args.signals.now
          c.loop-signal.signal-index _ c.loop-signal.variables.items _ c.in_ok-variable.variable lt
          c.loop-signal.invariant.places c.in_ok-push.ensures.items c.in_ok-variable.ensures.place;
      bindable = bindable-more c.args.dump.now c.loop-signal.variables.items _ c.in_ok-variable.variable
          c.loop-signal.invariant.bindable c.in_ok-push.ensures.items c.in_ok-variable.ensures.of;
      fits = c.loop-signal.invariant.fits
          ∙ refused-more (variables_of c.args.dump.now) c.args.signals.now
          c.loop-signal.signal-index _ lt c.in_ok-variable.ensures.fits;
    }
