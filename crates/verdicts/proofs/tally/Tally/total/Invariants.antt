use Rattle.std.proofs.Common.{◌≡◌, ◌+◌, vec_len}
use Rattle.std.specs.List.{sum_by}
use Rattle.verdicts.specs.Shares.{parts, amounts, sums, plus}
use Rattle.verdicts.proofs.tally.Tally.total.Given as goal

abbrev pub invariant-loop-share : goal.invariant-loop-share
invariant-loop-share g l =
    (parts l.all + sum_by parts l.shares.items ≡ sum_by parts l.fn.shares.items)
    × (plus (amounts l.all) (sums l.shares.items) ≡ sums l.fn.shares.items)

abbrev pub decreases-loop-share : goal.decreases-loop-share
decreases-loop-share g l = vec_len l.shares
