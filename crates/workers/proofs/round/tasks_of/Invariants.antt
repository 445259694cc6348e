use Rattle.std.proofs.Common.{◌≡◌, ◌≤◌, ◌+◌, ℕ, All, vec_len, vec_capacity}
use Rattle.std.specs.Vec.Iter.{into_iter_items, into_iter_len}
use Rattle.workers_bench.specs.Passes.{TakesNone}
use Rattle.workers_bench.specs.Benches.{IsPassOfBench, round_of}
use Rattle.workers.specs.Runs.{IsMember, Begins}
use Rattle.workers.specs.Adding.{added_by, added_by_tasks}
use Rattle.workers.proofs.round.tasks_of.Given as goal

abbrev pub invariant-loop-member : goal.invariant-loop-member
invariant-loop-member g l =
    (vec_len l.tasks + into_iter_len l.member-iterator ≡ vec_len l.fn.members)
    × (vec_len l.passes ≡ into_iter_len l.member-iterator) × (vec_len l.fn.members ≤ vec_capacity l.tasks)
    × All (λ pass. IsPassOfBench l.bench pass × TakesNone (round_of l.bench) pass) l.passes.items
    × All IsMember (into_iter_items l.member-iterator)
    × All (Begins l.bench) l.tasks.items
    × ((k : ℕ) → added_by_tasks k l.tasks.items + added_by k (into_iter_items l.member-iterator)
    ≡ added_by k l.fn.members.items)
