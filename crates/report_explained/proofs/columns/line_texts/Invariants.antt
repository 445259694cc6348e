use Rattle.std.proofs.Common.{take, string_bytes}
use Rattle.std.specs.List.{AllZip}
use Rattle.report_explained.specs.SheetText.{line_data, IsLineText}
use Rattle.report_explained.proofs.columns.line_texts.Given as goal

-- the texts so far
abbrev pub invariant-loop-line : goal.invariant-loop-line
invariant-loop-line l =
    AllZip (λ line text. IsLineText (line_data line) (string_bytes text)) (take l.line-index l.lines) l.texts.items
