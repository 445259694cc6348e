use Rattle.std.proofs.Common.{map, refl}
use Rattle.report_lines.specs.Lines.{line}
use Rattle.report_programs.proofs.LineLaws.{all-lines}
use Rattle.report_programs.proofs.lines.lines_of.Goals as goal

pub returns-clause-lines : goal.returns-clause-lines
returns-clause-lines c = λ k signals holds named.
    let of = c.in_ok-job.ensures in
    all-lines c.in_ok-job.job c.args.dump c.args.clocks c.args.suite.now
    c.in_ok-job.job.programs.items (map line c.in_ok-job_lines.field-0.items) k signals
    refl of.dump of.clocks of.made c.requires.watched holds named
    (c.in_ok-job_lines.ensures.lines k)
