use Rattle.std.proofs.Common.{ℕ, ◌&&◌}
use Rattle.judging.specs.Tables.{marks, IsRow}
use Rattle.judging.proofs.row.common_row.Given as goal

abbrev pub invariant-loop-place : goal.invariant-loop-place
invariant-loop-place l = IsRow (λ (j : ℕ). marks l.one j && marks l.other j) l.place l.row.items
