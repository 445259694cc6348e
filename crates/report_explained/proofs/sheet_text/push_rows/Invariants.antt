use Rattle.std.proofs.Common.{take, map}
use Rattle.report_explained.specs.SheetText.{line_data, GrowsByRows}
use Rattle.report_explained.proofs.sheet_text.push_rows.Given as goal

-- the lines so far
abbrev pub invariant-loop-row : goal.invariant-loop-row
invariant-loop-row l =
    GrowsByRows l.sheet.clocks.items (take l.row-index l.sheet.rows.items) (map line_data l.fn.lines.items)
    (map line_data l.lines.items)
