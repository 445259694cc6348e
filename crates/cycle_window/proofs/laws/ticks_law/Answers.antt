use Rattle.cycle_window.proofs.TickLaws.{are-ticks}
use Rattle.cycle_window.proofs.laws.ticks_law.Goals as goal

pub returns : goal.returns
returns c = are-ticks
