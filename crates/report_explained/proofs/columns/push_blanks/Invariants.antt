use Rattle.std.proofs.Common.{◌≡◌, ◌++◌, string_bytes}
use Rattle.report_explained.specs.SheetText.{blanks}
use Rattle.report_explained.proofs.columns.push_blanks.Given as goal

-- the blanks that are left still come
abbrev pub invariant-loop-more : goal.invariant-loop-more
invariant-loop-more l = string_bytes l.text ++ blanks l.more ≡ string_bytes l.fn.text ++ blanks l.count

abbrev pub decreases-loop-more : goal.decreases-loop-more
decreases-loop-more l = l.more
