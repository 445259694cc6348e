use Rattle.std.proofs.Common.{◌≡◌, ◌≤◌, ◌+◌, ◌++◌, map, vec_len, vec_capacity}
use Rattle.std.specs.Vec.Iter.{into_iter_items, into_iter_len}
use Rattle.workers_bench.specs.Hands.{numbers}
use Rattle.workers.specs.Runs.{upto}
use Rattle.workers.specs.Taking.{monitor_of}
use Rattle.workers.proofs.opening.numbered.Given as goal

abbrev pub invariant-loop-monitor : goal.invariant-loop-monitor
invariant-loop-monitor l =
    (numbers l.all.items ≡ upto 0 (vec_len l.all))
    × (map monitor_of l.all.items ++ into_iter_items l.monitor-iterator ≡ l.fn.monitors.items)
    × (vec_len l.all + into_iter_len l.monitor-iterator ≡ vec_len l.fn.monitors)
    × (vec_len l.fn.monitors ≤ vec_capacity l.all)
