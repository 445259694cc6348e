use Rattle.tests_parts.proofs.ReadLaws.{found, found_if, moves, starts}
use Rattle.tests_parts.proofs.walks.nth.Goals as goal

pub loop-step-init : goal.loop-step-init
loop-step-init g c = starts _ _ c.first-at.ensures.distinct c.first-at.ensures.slot

pub next-at-requires : goal.next-at-requires
next-at-requires g c = found _ _ _ c.loop-step.invariant c.in-Some.is

pub loop-step-preserved : goal.loop-step-preserved
loop-step-preserved g c = (moves _ _ _ c.loop-step.invariant c.in-Some.is _ c.next-at.ensures).0

pub returns : goal.returns
returns g c = found_if _ _ c.loop-step.invariant
