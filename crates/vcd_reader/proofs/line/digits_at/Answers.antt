use Rattle.std.proofs.Common.{sym, arith}
use Rattle.vcd_reader.proofs.LineLaws.{digits-none, digits-more}
use Rattle.vcd_reader.proofs.line.digits_at.Goals as goal

pub loop-at-init : goal.loop-at-init
loop-at-init c = digits-none c.args.bytes.now c.args.from c.requires

pub loop-at-preserved : goal.loop-at-preserved
loop-at-preserved c =
    let test = c.if-not-is_ascii_digit.ensures in
    digits-more c.args.bytes.now c.args.from c.loop-at.number c.loop-at.at _ c.loop-at.invariant c.loop-at-test.true
    (sym test.value) test.cases.0 (omega (arith, c.from.ensures))
