use Rattle.std.proofs.Common.{◌≡◌, take}
use Rattle.positions.specs.Rows.{with_rows, change_all}
use Rattle.positions.specs.Views.{rows_data, change_data}
use Rattle.positions.proofs.draft.Draft.put_rows.Given as goal

abbrev pub invariant-loop-row : goal.invariant-loop-row
invariant-loop-row l =
    l.self ≡ with_rows l.fn.self (change_all (change_data l.change) (rows_data (take l.row-index l.rows)))
