use Rattle.tests_parts.proofs.ReadLaws.{Reading}
use Rattle.tests_parts.proofs.walks.holds.Given as goal

abbrev pub invariant-loop-record : goal.invariant-loop-record
invariant-loop-record l = Reading l.pool.live l.at
