use Rattle.std.proofs.Common.{◌≡◌, ◌-◌, ◌≤◌}
use Rattle.workers_core.specs.Standing.{AreMore}
use Rattle.workers_core.proofs.monitor.Monitor.run.Given as goal

-- the clocks but those that are left are run
abbrev pub invariant-loop-left : goal.invariant-loop-left
invariant-loop-left l = record {
  few : l.left ≤ l.clocks;
  row : l.self.row ≡ l.fn.self.row;
  gone : AreMore l.fn.self l.fn.self.row.items (l.clocks - l.left) l.self;
}

abbrev pub decreases-loop-left : goal.decreases-loop-left
decreases-loop-left l = l.left
