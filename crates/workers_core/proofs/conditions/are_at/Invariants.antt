use Rattle.std.proofs.Common.{◌≡◌, map, take}
use Rattle.std.specs.List.{list_all}
use Rattle.workers_core.specs.States.{is_at}
use Rattle.workers_core.specs.Standing.{monitor_state}
use Rattle.workers_core.proofs.conditions.are_at.Given as goal

abbrev pub invariant-loop-monitor : goal.invariant-loop-monitor
invariant-loop-monitor l =
    l.at ≡ list_all (is_at l.clock) (map monitor_state (take l.monitor-index l.monitors))
