use Rattle.std.proofs.Common.{◌≡◌, ℕ, length}
use Rattle.positions.specs.Living.{lives_for}
use Rattle.positions.specs.Rows.{edges_at, is_marked_at}
use Rattle.positions.specs.Views.{rows_data}
use Rattle.positions.proofs.living.living.Given as goal

abbrev pub invariant-loop-tick : goal.invariant-loop-tick
invariant-loop-tick l =
    (p : ℕ) → is_marked_at l.marks.items p
    ≡ lives_for (length (rows_data l.rows)) (edges_at (rows_data l.rows)) l._tick p
