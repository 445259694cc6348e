use Rattle.parser_grammar.specs.Views.{items_of}
use Rattle.vcd_reader.specs.Held.{variables_of}
use Rattle.cli_faults.specs.Faults.{type_fault, window_fault}
use Rattle.cli.specs.Reported.{SaysSuite}
use Rattle.cli.specs.Outcomes.{WhyNoReport}
use Rattle.cli.proofs.TextLaws.{are_named, untyped, unclocked}
use Rattle.cli_faults.proofs.FaultLaws.{err_is}
use Rattle.cli.proofs.judged.report_judged.Goals as goal

pub report_by_judge-requires : goal.report_by_judge-requires
report_by_judge-requires c =
    let k = c.requires.held.0 in
    let holds = c.requires.held.1 in
    record {
      named = are_named k (variables_of c.args.dump.now) (items_of c.in_ok-file.file)
          c.in_ok-suite.suite holds.variables (c.in_ok-suite.ensures.ok k holds);
    }

pub returns-in_err-suite-clause-err : goal.returns-in_err-suite-clause-err
returns-in_err-suite-clause-err c = λ k holds.
    let text = c.args.text.now in
    let fault = c.in_err-suite.field-0.0 in
    err_is c.from_residual-in_err-suite.result (type_fault fault) (WhyNoReport k text)
    c.from_residual-in_err-suite.ensures.1
    (untyped k text (items_of c.in_ok-file.file) fault c.in_ok-file.ensures.ok
    (c.in_err-suite.ensures.err k holds))

pub returns-in_err-report_by_judge-clause-err : goal.returns-in_err-report_by_judge-clause-err
returns-in_err-report_by_judge-clause-err c = λ k holds.
    let suite = c.in_ok-suite.suite in
    let says : SaysSuite k c.args.text.now suite =
    record {
      items = items_of c.in_ok-file.file;
      spelled = c.in_ok-file.ensures.ok;
      typed = c.in_ok-suite.ensures.ok k holds;
    } in
    let fault = c.in_err-report_by_judge.field-0.0 in
    err_is c.from_residual-in_err-report_by_judge.result (window_fault fault)
    (WhyNoReport k c.args.text.now) c.from_residual-in_err-report_by_judge.ensures.1
    (unclocked k c.args.text.now suite fault says (c.in_err-report_by_judge.ensures.err k holds))

pub returns-clause-ok : goal.returns-clause-ok
returns-clause-ok c = λ k holds. record {
  suite = c.in_ok-suite.suite;
  says =
      record {
        items = items_of c.in_ok-file.file;
        spelled = c.in_ok-file.ensures.ok;
        typed = c.in_ok-suite.ensures.ok k holds;
      };
  reports = c.in_ok-report_by_judge.ensures.ok k holds;
}
