use Rattle.std.proofs.Common.{◌≡◌, map, take}
use Rattle.std.specs.List.{flat_map}
use Rattle.positions.specs.Rows.{with_edges, lead_data}
use Rattle.positions.specs.Views.{edge_data, change_data}
use Rattle.positions.proofs.lead.Lead.put_row.Given as goal

abbrev pub invariant-loop-edge : goal.invariant-loop-edge
invariant-loop-edge l =
    l.draft ≡ with_edges l.fn.draft (flat_map (lead_data l.self.fuses (change_data l.self.change) l.self.by l.second)
    (map edge_data (take l.edge-index l.row)))
