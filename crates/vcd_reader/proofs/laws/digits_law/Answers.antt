use Rattle.vcd_reader.proofs.ValueLaws.{digits}
use Rattle.vcd_reader.proofs.laws.digits_law.Goals as goal

pub returns : goal.returns
returns c = digits
