use Rattle.std.proofs.Common.{map, length}
use Rattle.vcd_reader.specs.Held.{named_of}
use Rattle.vcd_declarations.specs.Declarations.{declarations}
use Rattle.vcd_declarations.specs.Views.{left_in}
use Rattle.cli_names.specs.Rows.{row_data}
use Rattle.cli_names.proofs.RowLaws.{IsAlong}
use Rattle.cli_names.proofs.rows.told_among.Given as goal

abbrev pub invariant-variables : goal.invariant-variables
invariant-variables l =
    IsAlong l.fn.filter (declarations l.fn.bytes) (left_in l.header) (map named_of l.left)
    (map row_data l.rows.items) l.total

abbrev pub decreases-variables : goal.decreases-variables
decreases-variables l = length (left_in l.header)
