use Rattle.std.proofs.Common.{◌≡◌, ◌+◌, ◌<◌, ℕ, true, All, vec_len}
use Rattle.crossbeam_queue.specs.Passes.{view, IsPassOf}
use Rattle.workers_bench.specs.Hands.{whole, total}
use Rattle.workers_bench.specs.Passes.{pass_parts, taken_of}
use Rattle.workers_bench.proofs.bench.ends.gather.Given as goal

abbrev pub invariant-loop-other : goal.invariant-loop-other
invariant-loop-other l =
    (IsPassOf l.queue l.pass × All (IsPassOf l.queue) l.passes.items)
    × (((view l.pass).puts ≡ true) × (0 < pass_parts l.pass))
    × (pass_parts l.pass + total pass_parts l.passes.items ≡ whole)
    × (((view l.pass).put ≡ (view l.fn.pass).put) × ((view l.pass).round ≡ (view l.fn.pass).round))
    × ((h : ℕ → ℕ) → taken_of h l.pass + total (taken_of h) l.passes.items
    ≡ taken_of h l.fn.pass + total (taken_of h) l.fn.passes.items)

abbrev pub decreases-loop-other : goal.decreases-loop-other
decreases-loop-other l = vec_len l.passes
