use Rattle.std.proofs.Common.{[], string_bytes}
use Rattle.report_page.specs.Pictures.{Draws}
use Rattle.report_page.proofs.picture.push_end_lines.Given as goal

-- no label so far
abbrev pub invariant-loop-end : goal.invariant-loop-end
invariant-loop-end l = Draws (string_bytes l.fn.text) (string_bytes l.text) []
