use Rattle.std.proofs.Common.{arith}
use Rattle.vcd_reader.proofs.LineLaws.{bits-none, bits-four}
use Rattle.vcd_reader.proofs.line.fours_at.Goals as goal

pub loop-at-init : goal.loop-at-init
loop-at-init c = bits-none c.args.bytes.now c.args.from c.requires

pub loop-at-preserved : goal.loop-at-preserved
loop-at-preserved c =
    bits-four c.args.bytes.now c.args.from c.loop-at.number c.loop-at.at c.four_at-four.result c.loop-at.invariant
    (omega arith) (c.four_at-four.ensures (omega arith))
