use Rattle.std.proofs.Common.{◌≡◌, ℕ, ◌+◌, ◌&&◌, ◌||◌}
use Rattle.assertions.specs.Quantifiers.{some_in}
use Rattle.judging.specs.Tables.{marks, IsRow}
use Rattle.judging.proofs.row.both_row.Given as goal

abbrev pub invariant-loop-place : goal.invariant-loop-place
invariant-loop-place l = record {
  row : IsRow (λ (j : ℕ). (marks l.one j && some_in 0 (j + 1) (marks l.other))
      || (some_in 0 (j + 1) (marks l.one) && marks l.other j)) l.place l.row.items;
  one : l.one_ended ≡ some_in 0 l.place (marks l.one);
  other : l.other_ended ≡ some_in 0 l.place (marks l.other);
}
