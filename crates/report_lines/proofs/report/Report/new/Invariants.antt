use Rattle.std.proofs.Common.{◌≡◌, map, take}
use Rattle.report_lines.specs.Lines.{line, total_of}
use Rattle.report_lines.proofs.report.Report.new.Given as goal

-- the sums so far
abbrev pub invariant-loop-line : goal.invariant-loop-line
invariant-loop-line l = l.total ≡ total_of (map line (take l.line-index l.line-items))
