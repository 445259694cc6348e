use Rattle.std.proofs.Common.{◌≡◌, ◌+◌, ◌-◌, ◌≤◌, length}
use Rattle.vcd_reader.specs.Dump.{Contents}
use Rattle.cycle_window.specs.Held.{IsOver}
use Rattle.machine_batches.specs.Batches.{rows_between}
use Rattle.workers_core.specs.Standing.{seen, IsSame, HasGone}
use Rattle.workers_core.proofs.monitor.Monitor.advance_behind.Given as goal

-- the clocks so far are run
abbrev pub invariant-loop-tick : goal.invariant-loop-tick
invariant-loop-tick l = record {
  same : IsSame l.fn.self l.self;
  now : l.self.machine.state.standing.now ≡ l.before + l.tick;
  ahead : l.fn.self.machine.state.standing.now - l.before ≤ l.tick;
  most : l.tick ≤ l.last;
  ends : l.before + l.last ≡ l.to;
  spare : length l.self.machine.state.standing.attempts + (l.last - l.tick) ≤ l.self.decided.room;
  gone : (c : Contents) → IsOver l.window c →
      HasGone (rows_between (seen l.window c l.fn.self)
      (l.fn.self.machine.state.standing.now - l.before) l.tick) l.fn.self l.self;
}

abbrev pub decreases-loop-tick : goal.decreases-loop-tick
decreases-loop-tick l = l.last - l.tick
