use Rattle.std.proofs.Common.{◌≡◌, map, take}
use Rattle.positions.specs.Rows.{with_edges, joint_row}
use Rattle.positions.specs.Views.{edge_data}
use Rattle.positions.proofs.pairing.Pairing.put_row.Given as goal

abbrev pub invariant-loop-edge : goal.invariant-loop-edge
invariant-loop-edge l =
    l.draft
    ≡ with_edges l.fn.draft
    (joint_row l.self.alone l.self.first l.self.second (map edge_data (take l.edge-index l.edges))
    (map edge_data l.row))
