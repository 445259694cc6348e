use Rattle.diagnostics.proofs.LeastLaws.{IsSoFar}
use Rattle.diagnostics.proofs.names.first_least.Given as goal

-- what holds of the numbers so far
abbrev pub invariant-loop-place : goal.invariant-loop-place
invariant-loop-place l = IsSoFar l.most l.gaps l.place l.least l.first
