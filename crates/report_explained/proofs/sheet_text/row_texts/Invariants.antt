use Rattle.std.proofs.Common.{take, string_bytes}
use Rattle.std.specs.List.{AllZip}
use Rattle.report_explained.specs.SheetText.{IsCellText}
use Rattle.report_explained.proofs.sheet_text.row_texts.Given as goal

-- the texts so far
abbrev pub invariant-loop-place : goal.invariant-loop-place
invariant-loop-place l =
    AllZip (λ cell text. IsCellText l.row.width cell (string_bytes text)) (take l.place l.row.cells.items) l.texts.items
