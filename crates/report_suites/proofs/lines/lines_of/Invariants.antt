use Rattle.std.proofs.Common.{map, take}
use Rattle.report_lines.specs.Lines.{line}
use Rattle.report_suites.specs.Judged.{AreLinesOver}
use Rattle.report_suites.proofs.lines.lines_of.Given as goal

-- the lines so far
abbrev pub invariant-loop-assertion : goal.invariant-loop-assertion
invariant-loop-assertion l =
    AreLinesOver l.suite l.rows.signals (take l.assertion-index l.suite.assertions.items)
    (map line l.lines.items)
