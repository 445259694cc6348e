use Rattle.std.proofs.Common.{◌≡◌}
use Rattle.tests_parts.proofs.rings.agrees.Given as goal

abbrev pub invariant-loop-push : goal.invariant-loop-push
invariant-loop-push l = (l.ring.depth ≡ l.depth) × (l.ring.slots ≡ l.slots)
