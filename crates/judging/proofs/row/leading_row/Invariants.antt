use Rattle.std.proofs.Common.{◌≡◌, ℕ, ◌&&◌, ◌||◌, not}
use Rattle.assertions.specs.Quantifiers.{each_in}
use Rattle.judging.specs.Tables.{marks, IsRow}
use Rattle.judging.proofs.row.leading_row.Given as goal

abbrev pub invariant-loop-place : goal.invariant-loop-place
invariant-loop-place l = record {
  row : IsRow (λ (j : ℕ). marks l.ends j && (not l.first || each_in 0 j (λ (k : ℕ). not (marks l.ends k)))) l.place
      l.row.items;
  counts : l.counts ≡ (not l.first || each_in 0 l.place (λ (k : ℕ). not (marks l.ends k)));
}
