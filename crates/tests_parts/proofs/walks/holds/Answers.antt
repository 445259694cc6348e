use Rattle.tests_parts.proofs.ReadLaws.{found, moves, starts}
use Rattle.tests_parts.proofs.walks.holds.Goals as goal

pub loop-record-init : goal.loop-record-init
loop-record-init c = starts _ _ c.first-at.ensures.distinct c.first-at.ensures.slot

pub get-requires : goal.get-requires
get-requires c = found _ _ _ c.loop-record.invariant c.in-Some.is

pub next-at-requires : goal.next-at-requires
next-at-requires c = found _ _ _ c.loop-record.invariant c.in-Some.is

pub loop-record-preserved : goal.loop-record-preserved
loop-record-preserved c = (moves _ _ _ c.loop-record.invariant c.in-Some.is _ c.next-at.ensures).0
