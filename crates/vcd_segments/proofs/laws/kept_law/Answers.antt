use Rattle.vcd_segments.proofs.KeptLaws.{rows-are-kept, kept-goes-on}
use Rattle.vcd_segments.proofs.laws.kept_law.Goals as goal

pub returns : goal.returns
returns c = record { rows = rows-are-kept; on = kept-goes-on }
