use Rattle.std.proofs.Common.{◌≤◌, length}
use Rattle.vcd_segments.proofs.input.behind_separator.Given as goal

abbrev pub invariant-loop-at : goal.invariant-loop-at
invariant-loop-at l = record { inside : l.at ≤ length l.bytes }

abbrev pub decreases-loop-at : goal.decreases-loop-at
decreases-loop-at l = l.at
