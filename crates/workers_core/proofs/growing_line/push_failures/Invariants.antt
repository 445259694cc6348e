use Rattle.std.proofs.Common.{◌≡◌, ◌++◌, map, filter_map}
use Rattle.std.specs.List.{range_with_len}
use Rattle.machine_batches.specs.Ages.{nth}
use Rattle.machine_batches.specs.Lines.{failure_of}
use Rattle.workers_core.proofs.growing_line.push_failures.Given as goal

-- the attempts so far are added
abbrev pub invariant-loop-place : goal.invariant-loop-place
invariant-loop-place l = l.fails.items
    ≡ l.fn.fails.items
    ++ filter_map failure_of (map (nth l.streak.first) (range_with_len 0 l.place))
