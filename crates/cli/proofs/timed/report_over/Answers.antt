use Rattle.std.proofs.Common.{sym, subst}
use Rattle.cycle_window.specs.Held.{code_in, ticks_in}
use Rattle.report_lines.specs.Shown.{data_of}
use Rattle.report_programs.specs.Lines.{rows_at}
use Rattle.cli.specs.Outcomes.{WhyNoneByPrograms}
use Rattle.cli.proofs.TraceLaws.{times_told}
use Rattle.cli.proofs.ProgramLaws.{team_rows}
use Rattle.cli.proofs.CheckedLaws.{has_report, no_report}
use Rattle.cli.proofs.timed.report_over.Goals as goal

pub returns-clause-err : goal.returns-clause-err
returns-clause-err g c = λ k holds.
    let t = c.in_ok-suite.field-0 in
    let text = c.args.text.now in
    subst (WhyNoneByPrograms k text) (sym c.lines_fault.ensures)
    (no_report k c.args.dump text t.suite (code_in t.clocks) holds (c.in_ok-suite.ensures.says k holds)
    c.in_ok-suite.ensures.clock c.in-Err.fault c.in-Err.ensures.refused)

pub returns-in-Ok-clause-ok : goal.returns-in-Ok-clause-ok
returns-in-Ok-clause-ok g c = λ k holds.
    let t = c.in_ok-suite.field-0 in
    has_report k c.args.dump c.args.text.now t.suite (code_in t.clocks) holds
    (c.in_ok-suite.ensures.says k holds) c.in_ok-suite.ensures.clock (data_of c.in-Ok.report)
    (λ signals named.
    team_rows t.suite (rows_at k signals (code_in t.clocks)) (data_of c.in-Ok.report)
    (c.in-Ok.ensures.report k signals holds named))

pub returns-in-Ok-clause-timed : goal.returns-in-Ok-clause-timed
returns-in-Ok-clause-timed g c = λ k holds.
    let t = c.in_ok-suite.field-0 in
    let code = code_in t.clocks in
    times_told k c.args.dump c.args.text.now t.suite code (ticks_in t.clocks) holds (c.in_ok-suite.ensures.says k holds)
    c.in_ok-suite.ensures.clock (c.in_ok-suite.ensures.ticks k holds) (data_of c.in-Ok.report) c.len.result
    c.in_ok-times.times.items
    (λ signals named.
    team_rows t.suite (rows_at k signals code) (data_of c.in-Ok.report)
    (c.in-Ok.ensures.report k signals holds named))
    c.len.ensures c.in_ok-times.ensures
