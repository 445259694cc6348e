use Rattle.attempt_pool.specs.Walk.{left_at}
use Rattle.machine.proofs.SettleLaws.{Telling}
use Rattle.machine.proofs.attempts.tell_open.Given as goal

abbrev pub invariant-loop-at : goal.invariant-loop-at
invariant-loop-at l = Telling l.pool l.at l.out.items l.fn.out.items

abbrev pub decreases-loop-at : goal.decreases-loop-at
decreases-loop-at l = left_at l.at l.pool.live
