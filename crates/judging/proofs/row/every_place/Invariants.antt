use Rattle.std.proofs.Common.{ℕ, true}
use Rattle.judging.specs.Tables.{IsRow}
use Rattle.judging.proofs.row.every_place.Given as goal

abbrev pub invariant-loop-place : goal.invariant-loop-place
invariant-loop-place l = IsRow (λ (j : ℕ). true) l._place l.row.items
