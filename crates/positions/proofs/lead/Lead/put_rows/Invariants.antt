use Rattle.std.proofs.Common.{◌≡◌, map, take}
use Rattle.std.specs.List.{flat_map}
use Rattle.positions.specs.Rows.{with_rows, lead_data}
use Rattle.positions.specs.Views.{rows_data, change_data}
use Rattle.positions.proofs.lead.Lead.put_rows.Given as goal

abbrev pub invariant-loop-row : goal.invariant-loop-row
invariant-loop-row l =
    l.draft
    ≡ with_rows l.fn.draft (map (flat_map (lead_data l.self.fuses (change_data l.self.change) l.self.by l.second))
    (rows_data (take l.row-index l.rows)))
