use Rattle.std.proofs.Common.{◌≡◌}
use Rattle.positions.specs.Rows.{is_marked_at, kept_rows}
use Rattle.positions.specs.Views.{rows_data}
use Rattle.positions.proofs.sift.rows_kept.Given as goal

abbrev pub invariant-loop-place : goal.invariant-loop-place
invariant-loop-place l = rows_data l.all.items ≡ kept_rows (is_marked_at l.marks) (rows_data l.rows) l.place
