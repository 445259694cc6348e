use Rattle.std.proofs.Common.{rules, sym}
use Rattle.assertions.proofs.ScanLaws.{none-at-first, none-further, next-found, none-left}
use Rattle.assertions.proofs.read.next_waiting.Goals as goal

pub loop-at-init : goal.loop-at-init
loop-at-init c = none-at-first c.args.done.now c.args.from c.args.names.now

pub returns-then-is_waiting : goal.returns-then-is_waiting
returns-then-is_waiting c =
    next-found c.args.done.now c.args.from c.loop-at.at c.args.names.now c.index-names-at.result c.loop-at.auto.at
    c.loop-at-test.true c.index-names-at.is
    c.if-is_waiting.ensures c.loop-at.invariant

pub loop-at-preserved : goal.loop-at-preserved
loop-at-preserved c =
    none-further c.args.done.now c.args.from c.loop-at.at c.args.names.now c.index-names-at.result c.loop-at-test.true
    c.index-names-at.is
    (sym c.if-is_waiting.ensures) c.loop-at.invariant

pub returns : goal.returns
returns c = none-left c.args.done.now c.args.from c.loop-at.at c.args.names.now (search rules) c.loop-at.invariant
