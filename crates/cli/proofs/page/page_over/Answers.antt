use Rattle.report_lines.specs.Shown.{data_of}
use Rattle.cli.specs.Explained.{first_ones}
use Rattle.cli.proofs.ExplainedLaws.{paged}
use Rattle.cli.proofs.TraceLaws.{traced_report}
use Rattle.cli.proofs.page.page_over.Goals as goal

pub returns-clause-ok : goal.returns-clause-ok
returns-clause-ok g c = λ k holds.
    let e = c.in_ok-explained.explained in
    traced_report k c.args.text.now e.trace.suite e.trace.rows (data_of e.trace.report) e.trace.times.items
    (c.in_ok-explained.ensures.ok k holds).traced

pub returns-clause-timed : goal.returns-clause-timed
returns-clause-timed g c = λ k holds. (c.in_ok-explained.ensures.ok k holds).traced.timed

pub returns-clause-page : goal.returns-clause-page
returns-clause-page g c = λ k holds.
    paged k c.args.text.now (first_ones c.args.most) c.in_ok-explained.explained c.args.paths.now
    c.in_ok-page.page.items (c.in_ok-explained.ensures.ok k holds) c.in_ok-page.ensures
