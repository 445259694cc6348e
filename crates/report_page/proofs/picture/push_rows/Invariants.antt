use Rattle.std.proofs.Common.{take, string_bytes}
use Rattle.report_page.specs.Pictures.{DrawsRows}
use Rattle.report_page.proofs.picture.push_rows.Given as goal

-- the rows so far
abbrev pub invariant-loop-number : goal.invariant-loop-number
invariant-loop-number l =
    DrawsRows (take l.number l.sheet.rows.items) (string_bytes l.fn.text) (string_bytes l.text)
