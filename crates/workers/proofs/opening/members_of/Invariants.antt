use Rattle.std.proofs.Common.{◌≡◌, ◌≤◌, ◌+◌, ℕ, All, vec_len, vec_capacity}
use Rattle.std.specs.Vec.Iter.{into_iter_items, into_iter_len}
use Rattle.verdicts.specs.Shares.{IsFresh}
use Rattle.workers.specs.Adding.{added_by}
use Rattle.workers.specs.Runs.{IsMember}
use Rattle.workers.proofs.opening.members_of.Given as goal

-- those left are fresh, and those that are there added nothing
abbrev pub invariant-loop-share : goal.invariant-loop-share
invariant-loop-share g l =
    (vec_len l.all + into_iter_len l.share-iterator ≡ vec_len l.fn.shares) × (vec_len l.fn.shares ≤ vec_capacity l.all)
    × All IsFresh (into_iter_items l.share-iterator)
    × All IsMember l.all.items
    × ((k : ℕ) → added_by k l.all.items ≡ 0)
