use Rattle.bytecode_programs.specs.Programs.{data_of}
use Rattle.attempt_pool.specs.Walk.{left_at}
use Rattle.machine.proofs.AttemptLaws.{Visiting}
use Rattle.machine.proofs.attempts.visit_attempts.Given as goal

abbrev pub invariant-loop-at : goal.invariant-loop-at
invariant-loop-at l =
    Visiting (data_of l.fn.program) l.fn.atoms l.fn.now l.pool l.at l.left l.accepted l.fn.pool l.fn.left

abbrev pub decreases-loop-at : goal.decreases-loop-at
decreases-loop-at l = left_at l.at l.pool.live
