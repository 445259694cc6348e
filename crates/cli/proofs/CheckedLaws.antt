-- The report on a text over a dump, and why there is none by programs, once its suite is known.
use Rattle.std.proofs.Common.{ℕ, List, refl, subst}
use Rattle.std.specs.Prelude.{string_bytes}
use Rattle.assertions.specs.declared.suite.Suite.{Suite}
use Rattle.vcd_reader.specs.declared.dump.Dump.{Dump}
use Rattle.vcd_reader.specs.Variables.{Declared}
use Rattle.vcd_reader.specs.Dump.{Contents}
use Rattle.vcd_reader.specs.Held.{HoldsContents, variables_of}
use Rattle.cycle_window.specs.Bound.{IsClock}
use Rattle.report_lines.specs.Lines.{ReportData}
use Rattle.report_programs.specs.declared.fault.LinesFault.{LinesFault}
use Rattle.report_programs.specs.Lines.{AreVariables, rows_at}
use Rattle.report_programs.specs.Faults.{WhyNoLines}
use Rattle.report_suites.specs.Reported.{OverRows}
use Rattle.cli.specs.Programs.{lines_fault}
use Rattle.cli.specs.Reported.{HasReport, SaysSuite}
use Rattle.cli.specs.Outcomes.{WhyNoneByPrograms}
use Rattle.cli.proofs.TextLaws.{are_named, uncompiled}
use Rattle.cli.proofs.ProgramLaws.{has_clock, reports_by}

module _ (c : Contents) (d : Dump) (text : List ℕ) (suite : Suite) (code : ℕ) (holds : HoldsContents d c)
    (says : SaysSuite c text suite) (at : IsClock (variables_of d) (string_bytes suite.clock) code) where
  clock : IsClock c.variables (string_bytes suite.clock) code
  clock = subst (λ (vs : List Declared). IsClock vs (string_bytes suite.clock) code) holds.variables at

  pub has_report : (r : ReportData)
      → ((signals : List ℕ) → AreVariables c suite signals → OverRows suite (rows_at c signals code) r)
      → HasReport c text r
  has_report r over = record {
    suite = suite;
    says = says;
    reports = reports_by c suite code r clock (are_named c c.variables says.items suite refl says.typed) over;
  }

  pub no_report : (e : LinesFault) → WhyNoLines suite e → WhyNoneByPrograms c text (lines_fault e)
  no_report e why = uncompiled c text suite e says (has_clock c.variables (string_bytes suite.clock) code clock) why
