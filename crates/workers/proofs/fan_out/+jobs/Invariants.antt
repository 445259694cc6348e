use Rattle.std.proofs.Common.{◌+◌, ◌*◌}
use Rattle.workers.proofs.fan_out.+jobs.Given as goal

abbrev pub decreases-fan_out : goal.decreases-fan_out
decreases-fan_out g l = 2 * l.jobs.len

abbrev pub decreases-others : goal.decreases-others
decreases-others g l = 2 * l.jobs.len + 1
