use Rattle.std.proofs.Common.{◌≡◌, ◌++◌}
use Rattle.report_explained.specs.Shown.{listed_below}
use Rattle.report_explained.proofs.sheet.push_listed.Given as goal

abbrev pub invariant-loop-listed : goal.invariant-loop-listed
invariant-loop-listed l = l.sources.items ≡ l.fn.sources.items ++ listed_below l.listed
