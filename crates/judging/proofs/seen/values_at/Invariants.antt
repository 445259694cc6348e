use Rattle.std.proofs.Common.{◌≡◌, ℕ, ◌<◌, length}
use Rattle.std.specs.Prelude.{slice_get}
use Rattle.assertions.specs.Shapes.{is_true_at, expression_at}
use Rattle.expressions.specs.Rows.{samples_of}
use Rattle.judging.specs.Tables.{marks}
use Rattle.judging.proofs.seen.values_at.Given as goal

abbrev pub invariant-loop-place : goal.invariant-loop-place
invariant-loop-place l = record {
  long : length l.values.items ≡ l.place-index;
  each : (i : ℕ) → i < l.place-index → marks l.values.items i
      ≡ is_true_at (samples_of l.rows) (expression_at l.all (slice_get l.places i)) l.tick;
}
