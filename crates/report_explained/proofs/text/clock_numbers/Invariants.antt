use Rattle.std.proofs.Common.{◌≡◌, ◌++◌, drop}
use Rattle.report_explained.proofs.text.clock_numbers.Given as goal

-- the clocks that are left still come
abbrev pub invariant-loop-clock : goal.invariant-loop-clock
invariant-loop-clock l = l.numbers.items ++ drop l.clock-index l.clocks ≡ l.clocks
