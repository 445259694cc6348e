use Rattle.std.proofs.Common.{◌≡◌, map, take}
use Rattle.std.specs.List.{list_any}
use Rattle.positions.specs.Living.{edge_leads}
use Rattle.positions.specs.Rows.{is_marked_at}
use Rattle.positions.specs.Views.{edge_data}
use Rattle.positions.proofs.living.is_any_leading.Given as goal

abbrev pub invariant-loop-edge : goal.invariant-loop-edge
invariant-loop-edge l = l.on ≡ list_any (edge_leads (is_marked_at l.marks)) (map edge_data (take l.edge-index l.row))
