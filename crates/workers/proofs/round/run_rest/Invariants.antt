use Rattle.std.proofs.Common.{◌≡◌, ◌+◌, ℕ, All}
use Rattle.std.specs.Vec.Iter.{into_iter_items}
use Rattle.cycle_window.specs.Held.{first_in}
use Rattle.verdicts.specs.Shares.{parts}
use Rattle.workers_bench.specs.Monitors.{IsMonitorAt}
use Rattle.workers_bench.specs.Hands.{total, numbers}
use Rattle.workers.specs.Works.{IsPublished, published_count}
use Rattle.workers.specs.Adding.{is_of_kind, amount_of}
use Rattle.workers.specs.Runs.{published_numbers}
use Rattle.workers.proofs.round.run_rest.Given as goal

abbrev pub invariant-loop-monitor : goal.invariant-loop-monitor
invariant-loop-monitor g l =
    All (IsMonitorAt l.job (first_in l.window)) (into_iter_items l.monitor-iterator)
    × ((h : ℕ → ℕ) → total h (published_numbers l.published.items) + total h
    (numbers (into_iter_items l.monitor-iterator))
    ≡ total h (published_numbers l.fn.published.items) + total h (numbers l.fn.rest.items))
    × All (IsPublished l.job l.window l.board) l.published.items
    × (parts l.share ≡ 1)
    × ((k : ℕ) → amount_of k l.share + published_count (is_of_kind k) l.fn.published.items
    ≡ amount_of k l.fn.share + published_count (is_of_kind k) l.published.items)
