use Rattle.std.proofs.Common.{◌≡◌, ◌≤◌, ◌+◌, ◌++◌, map, vec_len, vec_capacity}
use Rattle.std.specs.Vec.Iter.{into_iter_items, into_iter_len}
use Rattle.workers.specs.Taking.{numbered_of}
use Rattle.workers.proofs.round_batches.monitors_back.Given as goal

abbrev pub invariant-loop-one : goal.invariant-loop-one
invariant-loop-one l =
    (l.all.items ++ map numbered_of (into_iter_items l.one-iterator) ≡ map numbered_of l.fn.published.items)
    × (vec_len l.all + into_iter_len l.one-iterator ≡ vec_len l.fn.published)
    × (vec_len l.fn.published ≤ vec_capacity l.all)
