use Rattle.vcd_segments.proofs.RowLaws.{rows-step-by-step}
use Rattle.vcd_segments.proofs.laws.rows_law.Goals as goal

pub returns : goal.returns
returns c = rows-step-by-step
