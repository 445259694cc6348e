use Rattle.std.proofs.Common.{sym, arith}
use Rattle.vcd_reader.proofs.LineLaws.{bits-more, bits-four}
use Rattle.vcd_reader.proofs.line.wide_at.Goals as goal

pub loop-at-preserved-then-four-lt16 : goal.loop-at-preserved-then-four-lt16
loop-at-preserved-then-four-lt16 c =
    rw c.from.ensures
    (bits-four c.args.bytes.now c.args.from c.loop-at.number c.loop-at.at c.four_at-four.result c.loop-at.invariant
    (omega arith) (c.four_at-four.ensures c.if-four-lt16.true))

pub loop-at-preserved : goal.loop-at-preserved
loop-at-preserved c =
    rw (c.from-in-loop-at.ensures, c.bit.ensures)
    (bits-more c.args.bytes.now c.args.from c.loop-at.number c.loop-at.at c.loop-at.invariant c.loop-at-test.true
    (sym c.if-not-is_bit_digit.ensures))
