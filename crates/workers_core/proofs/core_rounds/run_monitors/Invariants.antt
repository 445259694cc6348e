use Rattle.std.proofs.Common.{◌≡◌}
use Rattle.workers_core.specs.Rounds.{HasDone, KeepsWindow}
use Rattle.workers_core.proofs.core_rounds.run_monitors.Given as goal

-- so many monitors are done, in the same window
abbrev pub invariant-loop-monitor : goal.invariant-loop-monitor
invariant-loop-monitor l = record {
  job : l.core.job ≡ l.fn.core.job;
  size : l.core.size ≡ l.fn.core.size;
  behind : HasDone l._monitor l.core;
  window : KeepsWindow l.fn.core l.core;
}
