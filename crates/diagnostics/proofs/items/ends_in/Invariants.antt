use Rattle.std.proofs.Common.{◌++◌, ◌-◌, ◌≤◌, ℕ, List, drop, length}
use Rattle.diagnostics.specs.Items.{AreEnds}
use Rattle.diagnostics.proofs.items.ends_in.Given as goal

-- the ends so far, and then those of what is left
abbrev pub invariant-items : goal.invariant-items
invariant-items l =
    (l.at ≤ length l.tokens)
    × ((rest : List ℕ) → AreEnds l.size (drop l.at l.tokens) rest → AreEnds l.size l.tokens (l.ends.items ++ rest))

abbrev pub decreases-items : goal.decreases-items
decreases-items l = length l.tokens - l.at
