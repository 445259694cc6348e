use Rattle.std.proofs.Common.{◌≡◌, map, take}
use Rattle.std.specs.List.{list_any}
use Rattle.positions.specs.Living.{edge_leads}
use Rattle.positions.specs.Rows.{is_marked_at}
use Rattle.positions.specs.Views.{rows_data}
use Rattle.positions.proofs.living.marked_before.Given as goal

abbrev pub invariant-loop-row : goal.invariant-loop-row
invariant-loop-row l =
    l.all.items ≡ map (list_any (edge_leads (is_marked_at l.marks))) (rows_data (take l.row-index l.rows))
