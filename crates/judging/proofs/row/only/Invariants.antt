use Rattle.std.proofs.Common.{ℕ, ◌&&◌, ◌==◌}
use Rattle.judging.specs.Tables.{IsRow}
use Rattle.judging.proofs.row.only.Given as goal

abbrev pub invariant-loop-place : goal.invariant-loop-place
invariant-loop-place l = IsRow (λ (j : ℕ). (j == l.start) && l.marked) l.place l.row.items
