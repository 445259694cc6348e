use Rattle.std.proofs.Common.{◌-◌, ◌*◌}
use Rattle.vcd_reader.proofs.parts.+parts.Given as goal

abbrev pub decreases-read_by_parts : goal.decreases-read_by_parts
decreases-read_by_parts g l = 2 * l.parts

abbrev pub decreases-others : goal.decreases-others
decreases-others g l = 2 * l.parts - 1
