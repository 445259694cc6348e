use Rattle.std.proofs.Common.{ℕ, ◌==◌, ◌+◌, ◌&&◌}
use Rattle.judging.specs.Tables.{held_at}
use Rattle.judging.proofs.RowLaws.{IsRowsOf}
use Rattle.judging.proofs.relation.next.Given as goal

abbrev pub invariant-loop-place : goal.invariant-loop-place
invariant-loop-place l =
    IsRowsOf (λ (i j : ℕ). (j == i + 1) && held_at l.seen.values l.boolean i) l.starts l.place l.all
