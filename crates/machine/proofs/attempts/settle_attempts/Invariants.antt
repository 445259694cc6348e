use Rattle.attempt_pool.specs.Walk.{left_at}
use Rattle.machine.proofs.SettleLaws.{Settling}
use Rattle.machine.proofs.attempts.settle_attempts.Given as goal

abbrev pub invariant-loop-at : goal.invariant-loop-at
invariant-loop-at l =
    Settling l.fn.now l.fn.fates l.pool l.at l.left l.out.items l.fn.pool l.fn.left l.fn.out.items

abbrev pub decreases-loop-at : goal.decreases-loop-at
decreases-loop-at l = left_at l.at l.pool.live
