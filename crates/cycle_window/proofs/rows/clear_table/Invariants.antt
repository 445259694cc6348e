use Rattle.std.proofs.Common.{◌≡◌, ◌<◌, ℕ, None, length, get_or}
use Rattle.cycle_window.proofs.rows.clear_table.Given as goal

abbrev pub invariant-loop-place : goal.invariant-loop-place
invariant-loop-place l = record {
  long : length l.table ≡ length l.fn.table;
  none : (i : ℕ) → i < l.place → get_or l.table i None ≡ None;
}
