use Rattle.std.proofs.Common.{ℕ, ◌-◌, ◌&&◌, nat_le}
use Rattle.assertions.specs.Quantifiers.{some_in}
use Rattle.judging.specs.Tables.{has_link}
use Rattle.judging.proofs.RowLaws.{IsRowsOf}
use Rattle.judging.proofs.relation.moved_places.Given as goal

abbrev pub invariant-loop-place : goal.invariant-loop-place
invariant-loop-place l =
    IsRowsOf (λ (i j : ℕ). some_in l.least l.end (λ (gap : ℕ). nat_le gap j && has_link l.front i (j - gap))) l.starts
    l.place l.all
