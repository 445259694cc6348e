use Rattle.std.proofs.Common.{◌+◌, ◌-◌, ◌*◌, ◌≤◌, length}
use Rattle.import_tokens.proofs.expansion.+expand.Given as goal

abbrev pub decreases-expand_text : goal.decreases-expand_text
decreases-expand_text l = 2 * l.depth + 1

abbrev pub decreases-expand_use : goal.decreases-expand_use
decreases-expand_use l = 2 * l.depth

abbrev pub invariant-expand_text-loop-index : goal.invariant-expand_text-loop-index
invariant-expand_text-loop-index l = l.index ≤ length l.pieces

abbrev pub decreases-expand_text-loop-index : goal.decreases-expand_text-loop-index
decreases-expand_text-loop-index l = length l.pieces - l.index
