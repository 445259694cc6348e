use Rattle.std.proofs.Common.{◌≡◌, map, take}
use Rattle.positions.specs.Rows.{with_edges, joined_data}
use Rattle.positions.specs.Views.{edge_data}
use Rattle.positions.proofs.lead.put_joined.Given as goal

abbrev pub invariant-loop-other : goal.invariant-loop-other
invariant-loop-other l =
    l.draft
    ≡ with_edges l.fn.draft (map (joined_data l.by (edge_data l.edge)) (map edge_data (take l.other-index l.row)))
