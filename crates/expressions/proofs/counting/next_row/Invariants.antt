use Rattle.std.proofs.Common.{◌≡◌, ℕ, ◌<◌, vec_len, get_or}
use Rattle.std.specs.Prelude.{slice_get}
use Rattle.expressions.specs.Tables.{cell}
use Rattle.expressions.specs.Rows.{samples_of}
use Rattle.expressions.specs.Counters.{next_of}
use Rattle.expressions.proofs.counting.next_row.Given as goal

abbrev pub invariant-loop-place : goal.invariant-loop-place
invariant-loop-place l = record {
  long : vec_len l.row ≡ l.place;
  each : (j : ℕ) → j < l.place → get_or l.row.items j 0 ≡ next_of (samples_of l.rows) (slice_get l.all j)
      (cell l.rows.counters l.tick j) l.tick;
}
