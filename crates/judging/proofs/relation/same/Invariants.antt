use Rattle.std.proofs.Common.{ℕ, ◌==◌, ◌&&◌}
use Rattle.judging.proofs.RowLaws.{IsRowsOf}
use Rattle.judging.proofs.relation.same.Given as goal

abbrev pub invariant-loop-place : goal.invariant-loop-place
invariant-loop-place l = IsRowsOf (λ (i j : ℕ). (j == i) && l.wanted) l.starts l.place l.all
