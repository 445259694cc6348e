use Rattle.vcd_segments.proofs.JoinLaws.{rows-join}
use Rattle.vcd_segments.proofs.laws.join_law.Goals as goal

pub returns : goal.returns
returns c = rows-join
