use Rattle.std.proofs.Common.{[], ◌++◌, take}
use Rattle.std.specs.List.{flat_map}
use Rattle.report_lines.specs.Texts.{Grows}
use Rattle.cli_names.specs.declared.rows.Row.{Row}
use Rattle.cli_names.specs.Rows.{row_data}
use Rattle.cli_names.specs.Tables.{line_text}
use Rattle.cli_names.specs.Told.{widths_in}
use Rattle.cli_names.proofs.table.lines_of.Given as goal

-- the lines so far
abbrev pub invariant-loop-row : goal.invariant-loop-row
invariant-loop-row l =
    Grows [] l.out.items
    ([] ++ flat_map (λ (r : Row). line_text (widths_in l.widths) (row_data r)) (take l.row-index l.rows))
