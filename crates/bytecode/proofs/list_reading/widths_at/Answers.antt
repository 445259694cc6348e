use Rattle.std.proofs.lemmas.Result.{err_from_is_err_and}
use Rattle.bytecode.specs.Reading.{many_at, width_at}
use Rattle.bytecode.proofs.LoopLaws.{turns-next, turns-fail, turns-done}
use Rattle.bytecode.proofs.list_reading.widths_at.Goals as goal

pub returns-in_err-width : goal.returns-in_err-width
returns-in_err-width c =
    let p = err_from_is_err_and c.from_residual.result c.from_residual.ensures.1 in
    rw (p.1, p.2)
    (turns-fail width_at c.args.count c.loop.counter c.loop.found.items c.loop.rest.now
    (many_at width_at c.args.count c.args.bytes.now) c.loop.invariant c.in_err-width.field-0.0 c.loop-test.true
    c.in_err-width.ensures)

pub loop-preserved : goal.loop-preserved
loop-preserved c =
    turns-next width_at c.args.count c.loop.counter c.loop.found.items c.loop.rest.now
    (many_at width_at c.args.count c.args.bytes.now) c.loop.invariant c.in_ok-width.width c.in_ok-width.behind.now
    c.push.new.self.items c.loop-test.true c.in_ok-width.ensures c.in_ok-push.ensures.items

pub returns : goal.returns
returns c =
    turns-done width_at c.args.count c.loop.counter c.loop.found.items c.loop.rest.now
    (many_at width_at c.args.count c.args.bytes.now) c.loop.invariant c.loop-test.false
