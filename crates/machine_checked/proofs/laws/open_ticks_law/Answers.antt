use Rattle.machine_checked.proofs.ClockLaws.{clocks-agree}
use Rattle.machine_checked.proofs.laws.open_ticks_law.Goals as goal

pub returns : goal.returns
returns c = clocks-agree
