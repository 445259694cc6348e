use Rattle.tests_parts.proofs.CountLaws.{starts, live, retired, set, over}
use Rattle.tests_parts.proofs.walks.count_down.Goals as goal

pub loop-at-init : goal.loop-at-init
loop-at-init c = starts _ _ c.first-at.ensures.distinct c.first-at.ensures.slot

pub next-at-requires : goal.next-at-requires
next-at-requires c = live _ _ _ _ c.loop-at.invariant c.in-Some.is

pub get-turns-requires : goal.get-turns-requires
get-turns-requires c = live _ _ _ _ c.loop-at.invariant c.in-Some.is

pub retire-requires : goal.retire-requires
retire-requires c = live _ _ _ _ c.loop-at.invariant c.in-Some.is

pub set-requires : goal.set-requires
set-requires c = live _ _ _ _ c.loop-at.invariant c.in-Some.is

pub loop-at-smaller-then-turns-eq0 : goal.loop-at-smaller-then-turns-eq0
loop-at-smaller-then-turns-eq0 c =
    (retired _ _ _ _ c.loop-at.invariant c.in-Some.is _ c.get-turns.ensures _ c.next-at.ensures _
    c.if-turns-eq0.true c.retire.ensures).1

pub loop-at-preserved-then-turns-eq0 : goal.loop-at-preserved-then-turns-eq0
loop-at-preserved-then-turns-eq0 c =
    (retired _ _ _ _ c.loop-at.invariant c.in-Some.is _ c.get-turns.ensures _ c.next-at.ensures _
    c.if-turns-eq0.true c.retire.ensures).0

pub loop-at-smaller : goal.loop-at-smaller
loop-at-smaller c = (set _ _ _ _ c.loop-at.invariant c.in-Some.is _ c.get-turns.ensures _
    c.next-at.ensures _ c.if-turns-eq0.false c.set.ensures).1

pub loop-at-preserved : goal.loop-at-preserved
loop-at-preserved c =
    (set _ _ _ _ c.loop-at.invariant c.in-Some.is _ c.get-turns.ensures _ c.next-at.ensures _
    c.if-turns-eq0.false c.set.ensures).0

pub returns : goal.returns
returns c = over _ _ _ c.loop-at.invariant c.in_default.is
