use Rattle.std.proofs.Common.{arith}
use Rattle.machine.proofs.PoolSteps as steps
use Rattle.machine.proofs.SettleLaws as laws
use Rattle.machine.proofs.attempts.tell_open.Goals as goal

pub loop-at-init : goal.loop-at-init
loop-at-init c =
    laws.telling-first c.args.pool.now c.first-at.result c.args.out.now.items
    (steps.starts c.args.pool.now c.first-at.result c.first-at.ensures.distinct c.first-at.ensures.slot) c.requires

pub next-at-requires : goal.next-at-requires
next-at-requires c =
    let i = c.loop-at.invariant in
    steps.live c.args.pool.now c.loop-at.at c.in-Some.slot i.before i.rest i.stands c.in-Some.is

pub get-start-requires : goal.get-start-requires
get-start-requires c =
    let i = c.loop-at.invariant in
    steps.live c.args.pool.now c.loop-at.at c.in-Some.slot i.before i.rest i.stands c.in-Some.is

pub push-requires : goal.push-requires
push-requires c = (
  omega arith,
  laws.has_place c.args.pool.now c.loop-at.at c.loop-at.out.items c.args.out.now.items c.loop-at.invariant
      c.in-Some.slot c.in-Some.is c.get-start.result c.get-start.ensures,
)

pub loop-at-smaller : goal.loop-at-smaller
loop-at-smaller c =
    (laws.tells-next c.args.pool.now c.loop-at.at c.loop-at.out.items c.args.out.now.items c.loop-at.invariant
    c.in-Some.slot c.in-Some.is c.get-start.result c.get-start.ensures c.next-at.result c.next-at.ensures
    c.push.new.self.items c.push.ensures.items).1

pub loop-at-preserved : goal.loop-at-preserved
loop-at-preserved c =
    (laws.tells-next c.args.pool.now c.loop-at.at c.loop-at.out.items c.args.out.now.items c.loop-at.invariant
    c.in-Some.slot c.in-Some.is c.get-start.result c.get-start.ensures c.next-at.result c.next-at.ensures
    c.push.new.self.items c.push.ensures.items).0

pub returns : goal.returns
returns c =
    laws.telling-last c.args.pool.now c.loop-at.at c.loop-at.out.items c.args.out.now.items c.loop-at.invariant
    c.in_default.is
