use Rattle.std.proofs.Common.{take, map, string_bytes}
use Rattle.report_explained.specs.SheetText.{GrowsPlaced}
use Rattle.report_explained.proofs.columns.push_cells.Given as goal

-- the texts so far
abbrev pub invariant-loop-column : goal.invariant-loop-column
invariant-loop-column l =
    GrowsPlaced (string_bytes l.fn.text) (string_bytes l.text) (map string_bytes (take l.column l.cells))
