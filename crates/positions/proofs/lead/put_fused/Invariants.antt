use Rattle.std.proofs.Common.{◌≡◌, map, take}
use Rattle.std.specs.List.{flat_map}
use Rattle.positions.specs.Rows.{with_edges, joined_data, edges_at}
use Rattle.positions.specs.Views.{edge_data}
use Rattle.positions.proofs.lead.put_fused.Given as goal

abbrev pub invariant-loop-position : goal.invariant-loop-position
invariant-loop-position l =
    l.draft ≡ with_edges l.fn.draft
    (flat_map (λ q. map (joined_data l.by (edge_data l.edge)) (edges_at l.second.rows q))
    (take l.position-index l.second.starts))
