use Rattle.std.proofs.Common.{◌-◌, ◌<◌, length}
use Rattle.import_tokens.proofs.arguments.arguments_at.Given as goal

abbrev pub invariant-loop-end : goal.invariant-loop-end
invariant-loop-end l = l.bracket < l.start

abbrev pub decreases-loop-end : goal.decreases-loop-end
decreases-loop-end l = length l.pieces - l.start
