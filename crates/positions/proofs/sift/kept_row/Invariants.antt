use Rattle.std.proofs.Common.{◌≡◌, map, take}
use Rattle.positions.specs.Living.{sifted_edge}
use Rattle.positions.specs.Rows.{is_marked_at}
use Rattle.positions.specs.Views.{edge_data}
use Rattle.positions.proofs.sift.kept_row.Given as goal

abbrev pub invariant-loop-edge : goal.invariant-loop-edge
invariant-loop-edge l =
    map edge_data l.edges.items ≡ map (sifted_edge (is_marked_at l.marks)) (map edge_data (take l.edge-index l.row))
