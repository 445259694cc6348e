use Rattle.std.proofs.Common.{◌≡◌, map, take}
use Rattle.positions.specs.Rows.{with_rows, joint_row}
use Rattle.positions.specs.Views.{edge_data, rows_data}
use Rattle.positions.proofs.pairing.Pairing.put_rows.Given as goal

abbrev pub invariant-loop-row : goal.invariant-loop-row
invariant-loop-row l =
    l.draft
    ≡ with_rows l.fn.draft
    (map (joint_row l.self.alone l.self.first l.self.second (map edge_data l.edges))
    (rows_data (take l.row-index l.rows)))
