use Rattle.std.proofs.Common.{[]}
use Rattle.workers_core.proofs.growing_line.GrowingLine.of_streaks.Goals as goal

pub returns : goal.returns
returns c = c.in_ok-take_streaks.ensures.took [] c.new-line.ensures
