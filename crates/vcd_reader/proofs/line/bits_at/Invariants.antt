use Rattle.std.proofs.Common.{length, ◌-◌}
use Rattle.vcd_reader.specs.Lines.{AreBitsAt}
use Rattle.vcd_reader.proofs.line.bits_at.Given as goal

abbrev pub invariant-loop-at : goal.invariant-loop-at
invariant-loop-at l = AreBitsAt l.bytes l.from l.number l.at

abbrev pub decreases-loop-at : goal.decreases-loop-at
decreases-loop-at l = length l.bytes - l.at
