use Rattle.std.proofs.Common.{◌≡◌, ◌<◌, ◌≤◌, ℕ, false, slice_get, Some}
use Rattle.expressions.specs.declared.name.Name.{Name}
use Rattle.assertions.specs.Reads.{waits}
use Rattle.assertions.proofs.read.next_waiting.Given as goal

abbrev pub invariant-loop-at : goal.invariant-loop-at
invariant-loop-at l =
    (k : ℕ) (other : Name) → l.from ≤ k → k < l.at → slice_get l.names k ≡ Some other → waits l.done other ≡ false
