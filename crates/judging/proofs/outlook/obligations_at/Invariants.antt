use Rattle.std.proofs.Common.{ℕ, ◌+◌, ◌&&◌, nat_le}
use Rattle.judging.specs.Tables.{marks, IsRow}
use Rattle.judging.proofs.outlook.obligations_at.Given as goal

abbrev pub invariant-loop-tick : goal.invariant-loop-tick
invariant-loop-tick l = IsRow (λ (e : ℕ). nat_le (e + 1) l.below && marks l.ends (e + 1)) l.tick l.row.items
