use Rattle.report_explained.specs.ExpressionText.{called}
use Rattle.report_explained.specs.Shown.{IsShownRow}
use Rattle.report_explained.proofs.ZipLaws.{zip_more}
use Rattle.report_explained.proofs.sheet.rows_of.Goals as goal

pub loop-source-preserved : goal.loop-source-preserved
loop-source-preserved c =
    let read = c.args.read.now in
    zip_more
    (IsShownRow read.suite.now (called c.args.names) read.assertion.now read.attempt read.rows.now c.args.clocks.now)
    c.args.sources.now
    c.loop-source.source-index _ c.in_ok-row_of.field-0 c.loop-source.rows.items
    c.push.new.self.items c.loop-source-test.true c.in_ok-push.ensures.items c.in_ok-row_of.ensures
    c.loop-source.invariant
