use Rattle.std.proofs.Common.{◌-◌, ◌≤◌, length}
use Rattle.import_tokens.proofs.expansions.steps_of.Given as goal

abbrev pub invariant-loop-index : goal.invariant-loop-index
invariant-loop-index l = l.index ≤ length l.pieces

abbrev pub decreases-loop-index : goal.decreases-loop-index
decreases-loop-index l = length l.pieces - l.index
