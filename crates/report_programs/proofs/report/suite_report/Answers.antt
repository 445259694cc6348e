use Rattle.report_lines.specs.Shown.{data_of}
use Rattle.report_programs.proofs.LineLaws.{all-reported}
use Rattle.report_programs.proofs.report.suite_report.Goals as goal

pub returns-clause-report : goal.returns-clause-report
returns-clause-report g c = λ k signals holds named.
    let of = c.in_ok-job.ensures in
    all-reported c.in_ok-job.job c.args.dump c.args.clocks c.args.suite.now (data_of c.in_ok-report.report)
    k signals
    of.dump of.clocks of.made c.requires.clocks c.requires.watched holds named
    (c.in_ok-report.ensures.report k)
