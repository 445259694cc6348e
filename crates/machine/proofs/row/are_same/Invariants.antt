use Rattle.std.proofs.Common.{◌≡◌, take}
use Rattle.machine.proofs.row.are_same.Given as goal

-- so far they are the same
abbrev pub invariant-loop-place : goal.invariant-loop-place
invariant-loop-place l = take l.place l.left ≡ take l.place l.right
