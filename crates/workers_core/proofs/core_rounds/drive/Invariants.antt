use Rattle.std.proofs.Common.{◌≡◌, ◌-◌, length}
use Rattle.workers_core.specs.Rounds.{Rests}
use Rattle.workers_core.proofs.core_rounds.drive.Given as goal

-- the core rests
abbrev pub invariant-rounds : goal.invariant-rounds
invariant-rounds l = record {
  job : l.core.job ≡ l.fn.core.job;
  size : l.core.size ≡ l.fn.core.size;
  rests : Rests l.core;
}

-- the clocks that are left
abbrev pub decreases-rounds : goal.decreases-rounds
decreases-rounds l = length l.core.job.ticks - l.core.state.end
