use Rattle.tests_parts.proofs.ReadLaws.{Reading}
use Rattle.tests_parts.proofs.walks.nth.Given as goal

abbrev pub invariant-loop-step : goal.invariant-loop-step
invariant-loop-step g l = Reading l.pool.live l.at
