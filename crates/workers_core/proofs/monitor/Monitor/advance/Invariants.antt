use Rattle.std.proofs.Common.{◌≡◌, ◌+◌, ◌-◌, ◌≤◌, length}
use Rattle.vcd_reader.specs.Dump.{Contents}
use Rattle.cycle_window.specs.Held.{IsOver}
use Rattle.machine_batches.specs.Batches.{rows_between}
use Rattle.workers_core.specs.Standing.{seen, IsSame, HasGone}
use Rattle.workers_core.proofs.monitor.Monitor.advance.Given as goal

-- the clocks so far are run
abbrev pub invariant-loop-clock : goal.invariant-loop-clock
invariant-loop-clock l = record {
  same : IsSame l.fn.self l.self;
  now : l.self.machine.state.standing.now ≡ l.clock;
  ahead : l.fn.self.machine.state.standing.now ≤ l.clock;
  most : l.clock ≤ l.to;
  spare : length l.self.machine.state.standing.attempts + (l.to - l.clock) ≤ l.self.decided.room;
  gone : (c : Contents) → IsOver l.window c →
      HasGone (rows_between (seen l.window c l.fn.self) l.fn.self.machine.state.standing.now
      l.clock)
      l.fn.self l.self;
}

abbrev pub decreases-loop-clock : goal.decreases-loop-clock
decreases-loop-clock l = l.to - l.clock
