use Rattle.std.proofs.lemmas.Result.{err_from_is_err_and}
use Rattle.bytecode.specs.Reading.{many_at, sample_at}
use Rattle.bytecode.proofs.LoopLaws.{turns-next, turns-fail, turns-done}
use Rattle.bytecode.proofs.list_reading.samples_at.Goals as goal

pub returns-in_err-instr : goal.returns-in_err-instr
returns-in_err-instr c =
    let p = err_from_is_err_and c.from_residual.result c.from_residual.ensures.1 in
    rw (p.1, p.2)
    (turns-fail sample_at c.args.count c.loop.counter c.loop.found.items c.loop.rest.now
    (many_at sample_at c.args.count c.args.bytes.now) c.loop.invariant c.in_err-instr.field-0.0 c.loop-test.true
    c.in_err-instr.ensures)

pub loop-preserved : goal.loop-preserved
loop-preserved c =
    turns-next sample_at c.args.count c.loop.counter c.loop.found.items c.loop.rest.now
    (many_at sample_at c.args.count c.args.bytes.now) c.loop.invariant c.in_ok-instr.instr
    c.in_ok-instr.behind.now c.push.new.self.items c.loop-test.true c.in_ok-instr.ensures
    c.in_ok-push.ensures.items

pub returns : goal.returns
returns c =
    turns-done sample_at c.args.count c.loop.counter c.loop.found.items c.loop.rest.now
    (many_at sample_at c.args.count c.args.bytes.now) c.loop.invariant c.loop-test.false
