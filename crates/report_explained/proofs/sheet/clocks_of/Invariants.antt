use Rattle.std.proofs.Common.{◌-◌}
use Rattle.report_explained.specs.Shown.{AreShown, is_at_end}
use Rattle.report_explained.proofs.sheet.clocks_of.Given as goal

-- the clocks so far
abbrev pub invariant-loop-clock : goal.invariant-loop-clock
invariant-loop-clock l =
    AreShown (is_at_end l.first l.read.attempt.end) l.first (l.clock - l.first) l.clocks.items
