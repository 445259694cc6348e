use Rattle.std.proofs.Common.{◌≡◌, length}
use Rattle.machine.proofs.obligations.drop_obligations.Given as goal

abbrev pub invariant-loop-slot : goal.invariant-loop-slot
invariant-loop-slot l = l.pool.cap ≡ l.fn.pool.cap

abbrev pub decreases-loop-slot : goal.decreases-loop-slot
decreases-loop-slot l = length l.pool.live
