use Rattle.std.proofs.Common.{map}
use Rattle.std.proofs.lemmas.Result.{err_from_is_err_and}
use Rattle.bytecode.specs.Reading.{many_at, counted_at, step_at}
use Rattle.bytecode.proofs.LoopLaws.{items_of_block}
use Rattle.bytecode.proofs.LoopLaws.{turns-next, turns-fail, turns-done, pushed}
use Rattle.bytecode.proofs.list_reading.blocks_at.Goals as goal

pub returns-in_err-block : goal.returns-in_err-block
returns-in_err-block c =
    let p = err_from_is_err_and c.from_residual.result c.from_residual.ensures.1 in
    rw (p.1, p.2) (turns-fail (counted_at (step_at c.args.first)) c.args.count c.loop.counter
    (map items_of_block c.loop.found.items)
    c.loop.rest.now (many_at (counted_at (step_at c.args.first)) c.args.count c.args.bytes.now) c.loop.invariant
    c.in_err-block.field-0.0 c.loop-test.true c.in_err-block.ensures)

pub loop-preserved : goal.loop-preserved
loop-preserved c =
    turns-next (counted_at (step_at c.args.first)) c.args.count c.loop.counter (map items_of_block c.loop.found.items)
    c.loop.rest.now
    (many_at (counted_at (step_at c.args.first)) c.args.count c.args.bytes.now) c.loop.invariant
    (items_of_block c.in_ok-block.block) c.in_ok-block.behind.now (map items_of_block c.push.new.self.items)
    c.loop-test.true c.in_ok-block.ensures
    (pushed items_of_block c.loop.found.items c.push.new.self.items c.in_ok-block.block
    c.in_ok-push.ensures.items)

pub returns : goal.returns
returns c =
    turns-done (counted_at (step_at c.args.first)) c.args.count c.loop.counter (map items_of_block c.loop.found.items)
    c.loop.rest.now (many_at (counted_at (step_at c.args.first)) c.args.count c.args.bytes.now) c.loop.invariant
    c.loop-test.false
