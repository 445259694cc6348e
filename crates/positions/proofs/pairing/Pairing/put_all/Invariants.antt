use Rattle.std.proofs.Common.{◌≡◌, map, take}
use Rattle.std.specs.List.{flat_map}
use Rattle.positions.specs.Rows.{with_rows, joint_row}
use Rattle.positions.specs.Views.{rows_data}
use Rattle.positions.proofs.pairing.Pairing.put_all.Given as goal

abbrev pub invariant-loop-edges : goal.invariant-loop-edges
invariant-loop-edges l =
    l.draft ≡ with_rows l.fn.draft
    (flat_map (λ es. map (joint_row l.self.alone l.self.first l.self.second es) (rows_data l.seconds))
    (rows_data (take l.edges-index l.firsts)))
