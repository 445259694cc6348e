use Rattle.std.proofs.Common.{length}
use Rattle.machine.proofs.DisableLaws.{Disabling}
use Rattle.machine.proofs.attempts.disable_attempts.Given as goal

abbrev pub invariant-loop-slot : goal.invariant-loop-slot
invariant-loop-slot l =
    Disabling l.fn.now l.pool l.left l.out.items l.fn.pool l.fn.left l.fn.out.items

abbrev pub decreases-loop-slot : goal.decreases-loop-slot
decreases-loop-slot l = length l.pool.live
