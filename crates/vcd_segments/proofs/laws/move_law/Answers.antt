use Rattle.vcd_segments.proofs.ShiftLaws.{tokens-move, told-moves}
use Rattle.vcd_segments.proofs.laws.move_law.Goals as goal

pub returns : goal.returns
returns c = record { tokens = tokens-move; told = told-moves }
