use Rattle.std.proofs.Common.{ℕ, ◌&&◌}
use Rattle.assertions.specs.Quantifiers.{each_in}
use Rattle.judging.specs.Tables.{has_link, held_at}
use Rattle.judging.proofs.RowLaws.{IsRowsOf}
use Rattle.judging.proofs.relation.places_throughout.Given as goal

abbrev pub invariant-loop-place : goal.invariant-loop-place
invariant-loop-place l =
    IsRowsOf (λ (i j : ℕ). has_link l.body i j && each_in i j (held_at l.seen.values l.boolean)) l.starts l.place l.all
