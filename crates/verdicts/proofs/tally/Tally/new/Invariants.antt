use Rattle.std.proofs.Common.{◌≡◌, ◌+◌, ◌≤◌, ◌∷◌, [], All, vec_len, vec_capacity}
use Rattle.verdicts.specs.Shares.{parts, amounts, IsFresh}
use Rattle.verdicts.proofs.tally.Tally.new.Given as goal

abbrev pub invariant-loop-i : goal.invariant-loop-i
invariant-loop-i g l =
    (parts l.rest + l._i ≡ l.workers + 1) × (amounts l.rest ≡ 0 ∷ 0 ∷ 0 ∷ 0 ∷ []) × (vec_len l.shares + 1 ≡ l._i)
    × (l.workers ≤ vec_capacity l.shares)
    × All IsFresh l.shares.items
