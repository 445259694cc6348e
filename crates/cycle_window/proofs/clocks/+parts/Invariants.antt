use Rattle.std.proofs.Common.{◌-◌, ◌*◌}
use Rattle.cycle_window.proofs.clocks.+parts.Given as goal

abbrev pub decreases-ticks_by_parts : goal.decreases-ticks_by_parts
decreases-ticks_by_parts g l = 2 * l.parts

abbrev pub decreases-others : goal.decreases-others
decreases-others g l = 2 * l.parts - 1
