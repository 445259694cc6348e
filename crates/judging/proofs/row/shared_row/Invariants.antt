use Rattle.std.proofs.Common.{ℕ, ◌+◌, ◌&&◌, nat_le}
use Rattle.judging.specs.Tables.{marks, IsRow}
use Rattle.judging.proofs.row.shared_row.Given as goal

abbrev pub invariant-loop-place : goal.invariant-loop-place
invariant-loop-place l = IsRow (λ (j : ℕ). l.wanted && (nat_le l.start j && marks l.front (j + 1))) l.place l.row.items
