use Rattle.std.proofs.Common.{◌≡◌}
use Rattle.positions.specs.Living.{led_to}
use Rattle.positions.specs.Rows.{edges_at}
use Rattle.positions.specs.Views.{rows_data}
use Rattle.positions.proofs.reach.led_to.Given as goal

abbrev pub invariant-loop-place : goal.invariant-loop-place
invariant-loop-place l = l.list.items ≡ led_to l.starts (edges_at (rows_data l.rows)) l.place
