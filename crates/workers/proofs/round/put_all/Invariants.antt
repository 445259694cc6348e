use Rattle.std.proofs.Common.{◌≡◌, ◌++◌}
use Rattle.std.specs.Vec.Iter.{into_iter_items}
use Rattle.crossbeam_queue.specs.Passes.{view}
use Rattle.workers_bench.specs.Hands.{hand, numbers}
use Rattle.workers_bench.specs.Benches.{IsPassOfBench}
use Rattle.workers.proofs.round.put_all.Given as goal

abbrev pub invariant-loop-monitor : goal.invariant-loop-monitor
invariant-loop-monitor g l =
    IsPassOfBench l.bench l.pass
    × (view l.pass ≡ hand (view l.fn.pass).parts (view l.fn.pass).puts (view l.fn.pass).round (numbers l.yielded)
    (view l.fn.pass).taken)
    × (l.yielded ++ into_iter_items l.monitor-iterator ≡ l.fn.monitors.items)
