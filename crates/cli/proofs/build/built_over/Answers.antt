use Rattle.parser_grammar.specs.Views.{items_of}
use Rattle.cli_faults.specs.Faults.{type_fault}
use Rattle.cli.specs.Reported.{SaysSuite}
use Rattle.cli.specs.Builds.{IsSpelledProgram, WhyNoProgram, IsBuilt, WhyNotBuilt}
use Rattle.cli.proofs.ProgramLaws.{all_fit}
use Rattle.cli_faults.proofs.FaultLaws.{err_is}
use Rattle.cli.proofs.BuildLaws.{ok_kept, err_kept, without_types, without_program}
use Rattle.cli.proofs.build.built_over.Goals as goal

pub program_named-requires : goal.program_named-requires
program_named-requires c =
    let k = c.requires.held.0 in
    let holds = c.requires.held.1 in
    all_fit c.suite_law.ensures k c.args.text.now (items_of c.in_ok-file.file) c.in_ok-suite.suite
    c.in_ok-file.ensures.ok (c.in_ok-suite.ensures.ok k holds)

pub returns-in_err-suite-clause-err : goal.returns-in_err-suite-clause-err
returns-in_err-suite-clause-err c = λ k holds.
    let text = c.args.text.now in
    let name = c.args.name.now in
    let fault = c.in_err-suite.field-0.0 in
    err_is c.from_residual-in_err-suite.result (type_fault fault) (WhyNotBuilt k text name)
    c.from_residual-in_err-suite.ensures.1
    (without_types k text name (items_of c.in_ok-file.file) fault c.in_ok-file.ensures.ok
    (c.in_err-suite.ensures.err k holds))

pub returns-clause-ok : goal.returns-clause-ok
returns-clause-ok c = λ k holds.
    let text = c.args.text.now in
    let name = c.args.name.now in
    let suite = c.in_ok-suite.suite in
    let says : SaysSuite k text suite =
    record {
      items = items_of c.in_ok-file.file;
      spelled = c.in_ok-file.ensures.ok;
      typed = c.in_ok-suite.ensures.ok k holds;
    } in
    ok_kept c.program_named.result (λ v. IsSpelledProgram suite name v.items)
    (λ v. IsBuilt k text name v.items)
    (λ v h. record { suite = suite; says = says; is = h }) c.program_named.ensures.ok

pub returns-clause-err : goal.returns-clause-err
returns-clause-err c = λ k holds.
    let text = c.args.text.now in
    let name = c.args.name.now in
    let suite = c.in_ok-suite.suite in
    let says : SaysSuite k text suite =
    record {
      items = items_of c.in_ok-file.file;
      spelled = c.in_ok-file.ensures.ok;
      typed = c.in_ok-suite.ensures.ok k holds;
    } in
    err_kept c.program_named.result (WhyNoProgram suite name) (WhyNotBuilt k text name)
    (λ e h. without_program k text name suite e says h) c.program_named.ensures.err
