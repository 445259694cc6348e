use Rattle.std.proofs.Common.{◌≡◌, ◌≤◌, ◌+◌, ℕ, All, vec_len, vec_capacity}
use Rattle.std.specs.List.{sum_by}
use Rattle.std.specs.Vec.Iter.{into_iter_items, into_iter_len}
use Rattle.verdicts.specs.Shares.{parts}
use Rattle.workers.specs.Adding.{added_by}
use Rattle.workers.specs.Runs.{IsMember}
use Rattle.workers.specs.Tallied.{shared_by}
use Rattle.workers.proofs.totals.shares_of.Given as goal

-- what the shares so far have, and the members left
abbrev pub invariant-loop-member : goal.invariant-loop-member
invariant-loop-member g l =
    (vec_len l.shares + into_iter_len l.member-iterator ≡ vec_len l.fn.members)
    × (vec_len l.fn.members ≤ vec_capacity l.shares)
    × All IsMember (into_iter_items l.member-iterator)
    × (sum_by parts l.shares.items ≡ vec_len l.shares)
    × ((k : ℕ) → shared_by k l.shares.items + added_by k (into_iter_items l.member-iterator)
    ≡ added_by k l.fn.members.items)
