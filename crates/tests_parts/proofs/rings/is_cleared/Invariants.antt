use Rattle.std.proofs.Common.{◌≡◌}
use Rattle.tests_parts.proofs.rings.is_cleared.Given as goal

abbrev pub invariant-loop : goal.invariant-loop
invariant-loop l = (l.used.depth ≡ l.depth) × (l.used.slots ≡ l.slots)
