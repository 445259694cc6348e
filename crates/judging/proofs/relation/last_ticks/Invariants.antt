use Rattle.std.proofs.Common.{ℕ, ◌+◌, ◌&&◌, nat_le}
use Rattle.judging.specs.Tables.{has_link}
use Rattle.judging.proofs.RowLaws.{IsRowsOf}
use Rattle.judging.proofs.relation.last_ticks.Given as goal

abbrev pub invariant-loop-place : goal.invariant-loop-place
invariant-loop-place l =
    IsRowsOf (λ (i j : ℕ). l.wanted && (nat_le i j && has_link l.front i (j + 1))) l.starts l.place l.all
