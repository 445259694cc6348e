use Rattle.std.proofs.Common.{◌≡◌, ℕ, ◌&&◌}
use Rattle.assertions.specs.Quantifiers.{each_in}
use Rattle.judging.specs.Tables.{marks, held_at, IsRow}
use Rattle.judging.proofs.row.kept_row.Given as goal

abbrev pub invariant-loop-place : goal.invariant-loop-place
invariant-loop-place l = record {
  row : IsRow (λ (j : ℕ). marks l.body j && each_in l.start j (held_at l.seen.values l.boolean)) l.place l.row.items;
  goes : l.holds ≡ each_in l.start l.place (held_at l.seen.values l.boolean);
}
