use Rattle.std.proofs.Common.{◌≡◌, ◌≤◌, ◌+◌, ℕ, All, vec_len, vec_capacity}
use Rattle.std.specs.Vec.Iter.{into_iter_items, into_iter_len}
use Rattle.workers_bench.specs.Hands.{total}
use Rattle.workers_bench.specs.Passes.{pass_parts}
use Rattle.workers_bench.specs.Benches.{IsPassOfBench}
use Rattle.workers.specs.Works.{IsPublished, published_count}
use Rattle.workers.specs.Adding.{is_of_kind, added_by, added_by_worked, kind_counted}
use Rattle.workers.specs.Runs.{EndsRound, TakenIs, IsMember}
use Rattle.workers.proofs.round.gathered.Given as goal

abbrev pub invariant-loop-worked : goal.invariant-loop-worked
invariant-loop-worked g l =
    (vec_len l.passes + into_iter_len l.worked-iterator ≡ vec_len l.fn.all) × (vec_len l.members ≡ vec_len l.passes)
    × ((vec_len l.fn.all ≤ vec_capacity l.passes) × (vec_len l.fn.all ≤ vec_capacity l.members))
    × All (EndsRound l.bench l.board l.window) (into_iter_items l.worked-iterator)
    × All (IsPassOfBench l.bench) l.passes.items
    × (total pass_parts l.passes.items ≡ vec_len l.passes)
    × TakenIs l.passes.items l.published.items
    × All (IsPublished l.bench.job.now l.window l.board) l.published.items
    × All IsMember l.members.items
    × ((k : ℕ) → added_by k l.members.items + added_by_worked k (into_iter_items l.worked-iterator)
    ≡ added_by_worked k l.fn.all.items)
    × ((k : ℕ) → published_count (is_of_kind k) l.published.items + kind_counted k (into_iter_items l.worked-iterator)
    ≡ kind_counted k l.fn.all.items)
