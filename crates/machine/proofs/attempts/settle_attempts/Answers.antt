use Rattle.std.proofs.Common.{arith}
use Rattle.machine.proofs.PoolSteps as steps
use Rattle.machine.proofs.SettleLaws as laws
use Rattle.machine.proofs.attempts.settle_attempts.Goals as goal

pub loop-at-init : goal.loop-at-init
loop-at-init c =
    laws.settling-first c.args.now c.args.fates c.args.pool.now c.first-at.result c.args.left.now c.args.out.now.items
    (steps.starts c.args.pool.now c.first-at.result c.first-at.ensures.distinct c.first-at.ensures.slot)
    c.requires.begun c.requires.fits c.requires.room

pub next-at-requires : goal.next-at-requires
next-at-requires c =
    let i = c.loop-at.invariant in
    steps.live c.loop-at.pool c.loop-at.at c.in-Some.slot i.before i.rest i.stands c.in-Some.is

pub get-attempt-requires : goal.get-attempt-requires
get-attempt-requires c =
    let i = c.loop-at.invariant in
    steps.live c.loop-at.pool c.loop-at.at c.in-Some.slot i.before i.rest i.stands c.in-Some.is

pub overflow_sub-left : goal.overflow_sub-left
overflow_sub-left c =
    laws.affords c.args.now c.args.fates c.loop-at.pool c.loop-at.at c.loop-at.left c.loop-at.out.items
    c.args.pool.now c.args.left.now c.args.out.now.items c.loop-at.invariant c.in-Some.slot c.in-Some.is
    c.get-attempt.result c.get-attempt.ensures

pub verdict-requires : goal.verdict-requires
verdict-requires c =
    laws.started c.args.now c.args.fates c.loop-at.pool c.loop-at.at c.loop-at.left c.loop-at.out.items
    c.args.pool.now c.args.left.now c.args.out.now.items c.loop-at.invariant c.in-Some.slot c.in-Some.is
    c.get-attempt.result c.get-attempt.ensures

pub push-requires : goal.push-requires
push-requires c = (
  omega arith,
  laws.has_room c.args.now c.args.fates c.loop-at.pool c.loop-at.at c.loop-at.left c.loop-at.out.items
      c.args.pool.now c.args.left.now c.args.out.now.items c.loop-at.invariant c.in-Some.slot c.in-Some.is
      c.get-attempt.result c.get-attempt.ensures,
)

pub retire-requires : goal.retire-requires
retire-requires c =
    let i = c.loop-at.invariant in
    steps.live c.loop-at.pool c.loop-at.at c.in-Some.slot i.before i.rest i.stands c.in-Some.is

pub loop-at-smaller-in-Some-verdict : goal.loop-at-smaller-in-Some-verdict
loop-at-smaller-in-Some-verdict c =
    (laws.retired c.args.now c.args.fates c.loop-at.pool c.loop-at.at c.loop-at.left c.loop-at.out.items
    c.args.pool.now c.args.left.now c.args.out.now.items c.loop-at.invariant c.in-Some.slot c.in-Some.is
    c.get-attempt.result c.get-attempt.ensures c.in-Some-verdict.verdict c.in-Some-verdict.ensures c.next-at.result
    c.next-at.ensures c.retire.new.self c.retire.ensures c.push.new.self.items c.push.ensures.items).1

pub loop-at-preserved-in-Some-verdict : goal.loop-at-preserved-in-Some-verdict
loop-at-preserved-in-Some-verdict c =
    (laws.retired c.args.now c.args.fates c.loop-at.pool c.loop-at.at c.loop-at.left c.loop-at.out.items
    c.args.pool.now c.args.left.now c.args.out.now.items c.loop-at.invariant c.in-Some.slot c.in-Some.is
    c.get-attempt.result c.get-attempt.ensures c.in-Some-verdict.verdict c.in-Some-verdict.ensures c.next-at.result
    c.next-at.ensures c.retire.new.self c.retire.ensures c.push.new.self.items c.push.ensures.items).0

pub loop-at-smaller : goal.loop-at-smaller
loop-at-smaller c =
    (laws.kept c.args.now c.args.fates c.loop-at.pool c.loop-at.at c.loop-at.left c.loop-at.out.items c.args.pool.now
    c.args.left.now c.args.out.now.items c.loop-at.invariant c.in-Some.slot c.in-Some.is c.get-attempt.result
    c.get-attempt.ensures c.in_default-verdict.ensures c.next-at.result c.next-at.ensures).1

pub loop-at-preserved : goal.loop-at-preserved
loop-at-preserved c =
    (laws.kept c.args.now c.args.fates c.loop-at.pool c.loop-at.at c.loop-at.left c.loop-at.out.items c.args.pool.now
    c.args.left.now c.args.out.now.items c.loop-at.invariant c.in-Some.slot c.in-Some.is c.get-attempt.result
    c.get-attempt.ensures c.in_default-verdict.ensures c.next-at.result c.next-at.ensures).0

pub returns : goal.returns
returns c = record {
  cap = c.loop-at.invariant.cap;
  settled =
      laws.settling-last c.args.now c.args.fates c.loop-at.pool c.loop-at.at c.loop-at.left c.loop-at.out.items
      c.args.pool.now c.args.left.now c.args.out.now.items c.loop-at.invariant c.in_default.is;
}
