use Rattle.std.proofs.Common.{◌≡◌, [], None, map, replicate}
use Rattle.workers_core.specs.Parts.{worker_state}
use Rattle.workers_core.proofs.opening.idle_workers.Given as goal

-- the workers so far
abbrev pub invariant-loop-worker : goal.invariant-loop-worker
invariant-loop-worker l =
    map worker_state l.workers.items ≡ replicate l._worker (record { hand = None; done = [] })
