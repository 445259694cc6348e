use Rattle.std.proofs.Common.{◌+◌, ◌*◌}
use Rattle.judging.proofs.ends.+ends.Given as goal

abbrev pub decreases-ends_from : goal.decreases-ends_from
decreases-ends_from l = 10 * goal.size-ends_from l + 1

abbrev pub decreases-ends_behind : goal.decreases-ends_behind
decreases-ends_behind l = 10 * goal.size-ends_behind l + 2

abbrev pub decreases-ends_delayed : goal.decreases-ends_delayed
decreases-ends_delayed l = 10 * goal.size-ends_delayed l + 3

abbrev pub decreases-ends_late : goal.decreases-ends_late
decreases-ends_late l = 10 * goal.size-ends_late l + 3
