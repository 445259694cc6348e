use Rattle.std.proofs.Common.{map}
use Rattle.std.proofs.lemmas.Result.{err_from_is_err_and}
use Rattle.bytecode.specs.Reading.{many_at, slot_at}
use Rattle.bytecode_programs.specs.Views.{slot_data}
use Rattle.bytecode.proofs.LoopLaws.{turns-next, turns-fail, turns-done, pushed}
use Rattle.bytecode.proofs.list_reading.slots_at.Goals as goal

pub returns-in_err-slot : goal.returns-in_err-slot
returns-in_err-slot c =
    let p = err_from_is_err_and c.from_residual.result c.from_residual.ensures.1 in
    rw (p.1, p.2) (turns-fail slot_at c.args.count c.loop.counter (map slot_data c.loop.found.items) c.loop.rest.now
    (many_at slot_at c.args.count c.args.bytes.now) c.loop.invariant c.in_err-slot.field-0.0 c.loop-test.true
    c.in_err-slot.ensures)

pub loop-preserved : goal.loop-preserved
loop-preserved c =
    turns-next slot_at c.args.count c.loop.counter (map slot_data c.loop.found.items) c.loop.rest.now
    (many_at slot_at c.args.count c.args.bytes.now) c.loop.invariant (slot_data c.in_ok-slot.slot)
    c.in_ok-slot.behind.now (map slot_data c.push.new.self.items) c.loop-test.true c.in_ok-slot.ensures
    (pushed slot_data c.loop.found.items c.push.new.self.items c.in_ok-slot.slot c.in_ok-push.ensures.items)

pub returns : goal.returns
returns c =
    turns-done slot_at c.args.count c.loop.counter (map slot_data c.loop.found.items) c.loop.rest.now
    (many_at slot_at c.args.count c.args.bytes.now) c.loop.invariant c.loop-test.false
