use Rattle.std.proofs.Common.{◌≡◌, None, replicate}
use Rattle.cycle_window.proofs.rows.blank_table.Given as goal

abbrev pub invariant-loop-i : goal.invariant-loop-i
invariant-loop-i l = l.table.items ≡ replicate l._i None
