use Rattle.parser_grammar.specs.Views.{items_of}
use Rattle.vcd_reader.specs.Held.{variables_of}
use Rattle.cli_faults.specs.Faults.{type_fault}
use Rattle.cli.specs.Outcomes.{WhyNoneByPrograms}
use Rattle.cli.proofs.TextLaws.{are_named, untyped, none_by_programs}
use Rattle.cli_faults.proofs.FaultLaws.{err_is}
use Rattle.cli.proofs.ProgramLaws.{all_watched, all_fit}
use Rattle.cli.proofs.checked.suite_over.Goals as goal

pub returns-in_err-suite-clause-err : goal.returns-in_err-suite-clause-err
returns-in_err-suite-clause-err c = λ k holds.
    let text = c.args.text.now in
    let fault = c.in_err-suite.field-0.0 in
    err_is c.from_residual-in_err-suite.result (type_fault fault) (WhyNoneByPrograms k text)
    c.from_residual-in_err-suite.ensures.1
    (none_by_programs k text (type_fault fault)
    (untyped k text (items_of c.in_ok-file.file) fault c.in_ok-file.ensures.ok
    (c.in_err-suite.ensures.err k holds)))

pub returns-clause-says : goal.returns-clause-says
returns-clause-says c = λ k holds. record {
  items = items_of c.in_ok-file.file;
  spelled = c.in_ok-file.ensures.ok;
  typed = c.in_ok-suite.ensures.ok k holds;
}

pub returns-clause-watched : goal.returns-clause-watched
returns-clause-watched c =
    let k = c.requires.held.0 in
    let holds = c.requires.held.1 in
    let suite = c.in_ok-suite.suite in
    let d = c.args.dump.now in
    all_watched (variables_of d) suite.names.items
    (are_named k (variables_of d) (items_of c.in_ok-file.file) suite holds.variables
    (c.in_ok-suite.ensures.ok k holds))

pub returns-clause-fit : goal.returns-clause-fit
returns-clause-fit c =
    let k = c.requires.held.0 in
    let holds = c.requires.held.1 in
    all_fit c.suite_law.ensures k c.args.text.now (items_of c.in_ok-file.file) c.in_ok-suite.suite
    c.in_ok-file.ensures.ok (c.in_ok-suite.ensures.ok k holds)
