use Rattle.std.proofs.Common.{◌≡◌, ◌-◌, length}
use Rattle.tests_parts.proofs.walks.fill.Given as goal

abbrev pub invariant-loop-pool : goal.invariant-loop-pool
invariant-loop-pool l = (l.cap ≡ l.pool.cap) × (l.pool.cap ≡ l.fn.pool.cap)

abbrev pub decreases-loop-pool : goal.decreases-loop-pool
decreases-loop-pool l = l.cap - length l.pool.live
