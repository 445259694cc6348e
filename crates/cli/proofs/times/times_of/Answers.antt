use Rattle.vcd_reader.specs.Held.{steps_in}
use Rattle.cycle_window.specs.Held.{ticks_in}
use Rattle.cli.proofs.TimeLaws.{times_more}
use Rattle.cli.proofs.times.times_of.Goals as goal

pub loop-tick-preserved : goal.loop-tick-preserved
loop-tick-preserved c =
    times_more (steps_in c.args.dump.now) (ticks_in c.args.clocks.now) c.loop-tick.tick c.time_of_tick.result
    c.loop-tick.times.items c.push.new.self.items c.loop-tick.invariant c.in_ok-push.ensures.items
    c.time_of_tick.ensures
