use Rattle.std.proofs.Common.{take, string_bytes}
use Rattle.report_page.specs.Pictures.{DrawsBoxes}
use Rattle.report_page.proofs.wave.push_boxes.Given as goal

-- the boxes so far
abbrev pub invariant-loop-place : goal.invariant-loop-place
invariant-loop-place l =
    DrawsBoxes l.row.width (take l.place l.row.cells.items) (string_bytes l.fn.text) (string_bytes l.text)
