use Rattle.std.proofs.Common.{◌≡◌, ◌+◌, ◌-◌, ◌≤◌, ℕ, true, All, vec_len, vec_capacity}
use Rattle.crossbeam_queue.specs.Passes.{view, IsPassOf}
use Rattle.workers_bench.specs.Hands.{IsOfRound, whole, total, numbers}
use Rattle.workers_bench.specs.Passes.{pass_parts, taken_of}
use Rattle.workers_bench.proofs.bench.ends.drain.Given as goal

abbrev pub invariant-loop-i : goal.invariant-loop-i
invariant-loop-i g l =
    IsPassOf l.queue l.pass
    × ((pass_parts l.pass ≡ whole) × ((view l.pass).puts ≡ true))
    × (((view l.pass).put ≡ (view l.fn.pass).put) × ((view l.pass).round ≡ (view l.fn.pass).round))
    × ((h : ℕ → ℕ) → taken_of h l.pass ≡ taken_of h l.fn.pass + total h (numbers l.rest.items))
    × All (IsOfRound (view l.fn.pass).round) l.rest.items
    × ((vec_len l.rest ≡ l._i) × (l.held ≤ vec_capacity l.rest))
    × (total (λ _. 1) (view l.pass).put + l._i ≡ taken_of (λ _. 1) l.pass + l.held)
