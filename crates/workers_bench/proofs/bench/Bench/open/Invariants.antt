use Rattle.std.proofs.Common.{◌≡◌, ◌⊎◌, ◌-◌, ◌≤◌, true, All, vec_len, vec_capacity}
use Rattle.crossbeam_queue.specs.Passes.{view, IsPassOf}
use Rattle.workers_bench.specs.Hands.{whole, fresh}
use Rattle.workers_bench.specs.Passes.{TakesNone}
use Rattle.workers_bench.proofs.bench.Bench.open.Given as goal

abbrev pub invariant-loop-i : goal.invariant-loop-i
invariant-loop-i g l =
    IsPassOf l.queue l.pass
    × (view l.pass ≡ fresh (whole - l._i) true (view l.pass).round)
    × ((l._i ≡ 0) ⊎ ((view l.pass).round ≡ g.K.Rounding.round))
    × (vec_len l.passes ≡ l._i) × (l.workers ≤ vec_capacity l.passes)
    × All (λ pass. IsPassOf l.queue pass × TakesNone g.K.Rounding.round pass) l.passes.items
