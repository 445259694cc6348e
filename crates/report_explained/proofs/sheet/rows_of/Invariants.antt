use Rattle.std.proofs.Common.{take}
use Rattle.report_explained.specs.ExpressionText.{called}
use Rattle.report_explained.specs.Shown.{ShowsRows}
use Rattle.report_explained.proofs.sheet.rows_of.Given as goal

-- the rows so far
abbrev pub invariant-loop-source : goal.invariant-loop-source
invariant-loop-source l =
    let read = l.read in
    ShowsRows read.suite.now (called l.names) read.assertion.now read.attempt read.rows.now l.clocks
    (take l.source-index l.sources) l.rows.items
