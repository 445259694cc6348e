use Rattle.std.proofs.Common.{◌∙◌, List, ℕ, ap, subst, string_bytes}
use Rattle.vcd_reader.specs.Variables.{Declared}
use Rattle.vcd_reader.specs.Held.{variables_of}
use Rattle.cycle_window.specs.Bound.{IsClock}
use Rattle.cycle_window.specs.Held.{code_in}
use Rattle.report_lines.specs.Shown.{data_of}
use Rattle.report_suites.specs.Named.{AreNamed}
use Rattle.report_suites.proofs.ReportLaws.{named_by, have_places, reports}
use Rattle.report_suites.proofs.report.report_by_judge.Goals as goal

pub returns-clause-ok : goal.returns-clause-ok
returns-clause-ok c = λ k holds.
    let suite = c.args.suite.now in
    let names = suite.names.items in
    let code = code_in c.in_ok-clocks.clocks in
    let clock =
    subst (λ (p : List ℕ). IsClock (variables_of c.args.dump.now) p code) c.as_str.ensures.value
    c.in_ok-clocks.ensures.clock in
    reports k suite code c.in_ok-rows.rows (data_of c.in_ok-report_over.field-0)
    (subst (λ (vs : List Declared). IsClock vs (string_bytes suite.clock) code) holds.variables
    clock)
    (have_places k.variables names
    (subst (λ (vs : List Declared). AreNamed vs names) holds.variables c.requires.named))
    (λ signals named.
    c.in_ok-rows.ensures k signals holds
    (ap (λ (vs : List Declared). named_by vs names) holds.variables ∙ named))
    c.in_ok-report_over.ensures
