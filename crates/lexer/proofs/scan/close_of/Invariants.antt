use Rattle.std.proofs.Common.{◌≡◌, ◌-◌, ◌≤◌, length, drop}
use Rattle.lexer.specs.Cutting.{comment_end}
use Rattle.lexer.proofs.CutLaws.{later}
use Rattle.lexer.proofs.scan.close_of.Given as goal

abbrev pub invariant-loop-at : goal.invariant-loop-at
invariant-loop-at l = record {
  low : l.start ≤ l.at;
  high : l.at ≤ length l.bytes;
  same : comment_end (drop l.start l.bytes) ≡ later (l.at - l.start) (comment_end (drop l.at l.bytes));
}

abbrev pub decreases-loop-at : goal.decreases-loop-at
decreases-loop-at l = length l.bytes - l.at
