use Rattle.vcd_segments.proofs.JoinLaws.{telling-goes-on}
use Rattle.vcd_segments.proofs.KeptLaws.{kept-tells}
use Rattle.vcd_segments.proofs.TellLaws.{telling-step-tells}
use Rattle.vcd_segments.proofs.laws.telling_law.Goals as goal

pub returns : goal.returns
returns c = record { step = telling-step-tells; on = telling-goes-on; kept = kept-tells }
