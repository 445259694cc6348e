use Rattle.std.proofs.Common.{◌≡◌, map, drop}
use Rattle.std.specs.Prelude.{max}
use Rattle.cli_names.specs.Rows.{row_data}
use Rattle.cli_names.specs.Tables.{width_of}
use Rattle.cli_names.proofs.column.width_of.Given as goal

abbrev pub invariant-loop-row : goal.invariant-loop-row
invariant-loop-row l =
    max l.width (width_of l.column (map row_data (drop l.row-index l.rows)))
    ≡ width_of l.column (map row_data l.rows)
