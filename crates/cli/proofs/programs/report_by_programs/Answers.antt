use Rattle.std.proofs.Common.{map}
use Rattle.cycle_window.specs.Held.{ticks_in, code_in}
use Rattle.report_lines.specs.Lines.{line}
use Rattle.report_lines.specs.Shown.{data_of}
use Rattle.cli.proofs.ProgramLaws.{over_rows}
use Rattle.cli.proofs.programs.report_by_programs.Goals as goal

pub returns-clause-ok : goal.returns-clause-ok
returns-clause-ok c = λ k signals holds named.
    let clocks = c.args.clocks in
    over_rows k c.args.suite.now signals (code_in clocks) (ticks_in clocks) c.len-count.result
    (map line c.in_ok-lines.lines.items) (data_of c.new.result)
    (c.requires.clocks k holds) c.len-count.ensures c.new.ensures
    (c.in_ok-lines.ensures.lines k signals holds named)
