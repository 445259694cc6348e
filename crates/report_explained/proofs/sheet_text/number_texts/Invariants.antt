use Rattle.std.proofs.Common.{◌≡◌, ◌++◌, drop, map, decimal, string_bytes}
use Rattle.report_explained.proofs.sheet_text.number_texts.Given as goal

-- the numbers that are left still come
abbrev pub invariant-loop-number : goal.invariant-loop-number
invariant-loop-number l =
    map string_bytes l.texts.items ++ map decimal (drop l.number-index l.numbers) ≡ map decimal l.numbers
