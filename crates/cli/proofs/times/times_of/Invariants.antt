use Rattle.vcd_reader.specs.Held.{steps_in}
use Rattle.cycle_window.specs.Held.{ticks_in}
use Rattle.cli.specs.Timed.{AreTimesIn}
use Rattle.cli.proofs.times.times_of.Given as goal

-- the times so far
abbrev pub invariant-loop-tick : goal.invariant-loop-tick
invariant-loop-tick l = AreTimesIn (steps_in l.dump) (ticks_in l.clocks) l.tick l.times.items
