use Rattle.attempt_pool.specs.Walk.{left_at}
use Rattle.tests_parts.proofs.CountLaws.{Counting}
use Rattle.tests_parts.proofs.walks.count_down.Given as goal

abbrev pub invariant-loop-at : goal.invariant-loop-at
invariant-loop-at l = Counting l.pool l.at l.fn.pool

abbrev pub decreases-loop-at : goal.decreases-loop-at
decreases-loop-at l = left_at l.at l.pool.live
