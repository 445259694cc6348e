use Rattle.std.proofs.Common.{◌≡◌, map, take}
use Rattle.std.specs.List.{list_all}
use Rattle.workers_core.specs.States.{is_idle}
use Rattle.workers_core.specs.Parts.{worker_state}
use Rattle.workers_core.proofs.conditions.are_idle.Given as goal

abbrev pub invariant-loop-worker : goal.invariant-loop-worker
invariant-loop-worker l =
    l.idle ≡ list_all is_idle (map worker_state (take l.worker-index l.workers))
