use Rattle.std.proofs.Common.{◌≡◌, ◌++◌, drop, map, None, string_bytes}
use Rattle.report_explained.specs.SheetText.{with_gaps}
use Rattle.report_explained.proofs.sheet_text.with_gaps.Given as goal

-- the texts that are left still come
abbrev pub invariant-loop-place : goal.invariant-loop-place
invariant-loop-place l =
    map string_bytes l.cells.items
    ++ with_gaps l.before (drop l.place l.clocks) (map string_bytes (drop l.place l.texts))
    ≡ with_gaps None l.clocks (map string_bytes l.texts)
