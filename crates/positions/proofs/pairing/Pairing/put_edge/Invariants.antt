use Rattle.std.proofs.Common.{◌≡◌, map, take}
use Rattle.positions.specs.Rows.{with_edges, joint_data}
use Rattle.positions.specs.Views.{edge_data}
use Rattle.positions.proofs.pairing.Pairing.put_edge.Given as goal

abbrev pub invariant-loop-other : goal.invariant-loop-other
invariant-loop-other l =
    l.draft
    ≡ with_edges l.fn.draft
    (map (joint_data l.self.alone l.self.first l.self.second (edge_data l.edge))
    (map edge_data (take l.other-index l.row)))
