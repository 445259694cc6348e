use Rattle.std.proofs.Common.{ℕ, ◌||◌}
use Rattle.judging.specs.Tables.{has_link}
use Rattle.judging.proofs.RowLaws.{IsRowsOf}
use Rattle.judging.proofs.relation.union_of.Given as goal

abbrev pub invariant-loop-place : goal.invariant-loop-place
invariant-loop-place l = IsRowsOf (λ (i j : ℕ). has_link l.one i j || has_link l.other i j) l.starts l.place l.all
