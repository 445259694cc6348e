use Rattle.std.proofs.Common.{ℕ, ◌+◌, ◌&&◌, nat_le}
use Rattle.assertions.specs.Quantifiers.{some_in}
use Rattle.judging.specs.Tables.{marks, has_link, IsRow}
use Rattle.judging.proofs.row.joined_row.Given as goal

abbrev pub invariant-loop-place : goal.invariant-loop-place
invariant-loop-place l =
    IsRow (λ (j : ℕ). some_in 0 l.place (λ (m : ℕ). marks l.front m && (nat_le (m + l.gap) j && has_link l.rest m j)))
    l.count l.row.items
