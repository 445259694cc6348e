use Rattle.std.proofs.Common.{◌≡◌, ◌∙◌, ℕ, List, Some, map, string_bytes, sym, ap, subst}
use Rattle.vcd_reader.specs.Held.{variables_of, steps_in}
use Rattle.vcd_reader.specs.Variables.{Declared, variable_named}
use Rattle.cycle_window.specs.Held.{code_in, ticks_in}
use Rattle.report_lines.specs.Shown.{data_of}
use Rattle.report_programs.specs.Lines.{AreVariables, rows_at}
use Rattle.cli.specs.Outcomes.{WhyNoneByPrograms}
use Rattle.cli.specs.Explained.{IsTraced}
use Rattle.cli.proofs.ProgramLaws.{team_rows}
use Rattle.cli.proofs.CheckedLaws.{no_report}
use Rattle.cli.proofs.TraceLaws.{all_named, traced, traced_lines}
use Rattle.cli.proofs.trace.trace_of.Goals as goal

pub suite_rows-requires-clause-named : goal.suite_rows-requires-clause-named
suite_rows-requires-clause-named g c =
    all_named (variables_of c.args.dump) c.in_ok-suite.field-0.suite.names.items c.in_ok-suite.ensures.watched

pub returns-clause-err : goal.returns-clause-err
returns-clause-err g c = λ k holds.
    let t = c.in_ok-suite.field-0 in
    let text = c.args.text.now in
    subst (WhyNoneByPrograms k text) (sym c.lines_fault.ensures)
    (no_report k c.args.dump text t.suite (code_in t.clocks) holds (c.in_ok-suite.ensures.says k holds)
    c.in_ok-suite.ensures.clock c.in-Err.fault c.in-Err.ensures.refused)

pub returns-in-Ok-clause-ok : goal.returns-in-Ok-clause-ok
returns-in-Ok-clause-ok g c = λ k holds.
    let t = c.in_ok-suite.field-0 in
    let code = code_in t.clocks in
    let rows = c.in_ok-rows.rows in
    traced k c.args.dump c.args.text.now t.suite code (ticks_in t.clocks) holds (c.in_ok-suite.ensures.says k holds)
    c.in_ok-suite.ensures.clock (c.in_ok-suite.ensures.ticks k holds) rows (data_of c.in-Ok.report) c.len.result
    c.in_ok-times.times.items c.in_ok-rows.ensures.counted
    (λ signals named. c.in_ok-rows.ensures.rows k signals holds
    (subst
    (λ (vs : List Declared). map (λ s. variable_named vs (string_bytes s.path)) t.suite.names.items
    ≡ map (λ (v : ℕ). Some v) signals)
    (sym holds.variables) named))
    (λ signals named. team_rows t.suite (rows_at k signals code) (data_of c.in-Ok.report)
    (c.in-Ok.ensures.report k signals holds named))
    c.len.ensures.len c.in_ok-times.ensures

pub returns-in-Ok-clause-judged : goal.returns-in-Ok-clause-judged
returns-in-Ok-clause-judged g c =
    let k = c.requires.held.0 in
    let t = c.in_ok-suite.field-0 in
    traced_lines k c.args.text.now t.suite c.in_ok-rows.rows (data_of c.in-Ok.report) c.in_ok-times.times.items
    (returns-in-Ok-clause-ok g c k c.requires.held.1)
