use Rattle.std.proofs.Common.{◌≡◌, map, take}
use Rattle.positions.specs.Rows.{with_edges, changed}
use Rattle.positions.specs.Views.{edge_data, change_data}
use Rattle.positions.proofs.draft.Draft.put_changed.Given as goal

abbrev pub invariant-loop-edge : goal.invariant-loop-edge
invariant-loop-edge l =
    l.self ≡ with_edges l.fn.self (map (changed (change_data l.change)) (map edge_data (take l.edge-index l.row)))
