use Rattle.std.proofs.Common.{sym}
use Rattle.vcd_reader.proofs.LineLaws.{bits-more}
use Rattle.vcd_reader.proofs.line.bits_at.Goals as goal

pub loop-at-preserved : goal.loop-at-preserved
loop-at-preserved c =
    rw c.bit.ensures
    (bits-more c.args.bytes.now c.args.from c.loop-at.number c.loop-at.at c.loop-at.invariant c.loop-at-test.true
    (sym c.if-not-is_bit_digit.ensures))
