use Rattle.std.proofs.Common.{◌≡◌, subst}
use Rattle.std.specs.Prelude.{IsTrue}
use Rattle.bytecode_programs.specs.Values.{ProgramData, fits_program}
use Rattle.bytecode.specs.Spelling.{spelling}
use Rattle.compiler.specs.Conditions.{FitsSuite}
use Rattle.compiler.proofs.ListLaws.{all-at}
use Rattle.cli_faults.specs.Faults.{compile_fault}
use Rattle.cli.specs.Builds.{WhyNoProgram}
use Rattle.cli_faults.proofs.FaultLaws.{err_is}
use Rattle.cli.proofs.BuildLaws.{unnamed}
use Rattle.cli.proofs.build.program_named.Goals as goal

pub compile-requires : goal.compile-requires
compile-requires c =
    let suite = c.args.suite.now in
    all-at (FitsSuite suite) suite.assertions.items c.requires c.in-Some.ensures.place
    c.in-Some.assertion.now c.in-Some.ensures.is

pub returns-in_err-verified-clause-err : goal.returns-in_err-verified-clause-err
returns-in_err-verified-clause-err c =
    let suite = c.args.suite.now in
    let name = c.args.name.now in
    let fault = c.in_err-verified.field-0.0 in
    err_is c.from_residual-in_err-verified.result (compile_fault fault) (WhyNoProgram suite name)
    c.from_residual-in_err-verified.ensures.1
    (unnamed suite name c.in-Some.assertion.now fault c.in-Some.ensures
    c.in_err-verified.ensures.refused)

pub returns-clause-ok : goal.returns-clause-ok
returns-clause-ok c =
    let bytes = c.in_ok-encode.field-0.items in
    record {
      assertion = c.in-Some.assertion.now;
      of = c.in-Some.ensures;
      faultless = c.in_ok-verified.ensures.faultless;
      program = c.in_ok-verified.verified;
      means = c.in_ok-verified.ensures.made;
      accepted = c.in_ok-verified.ensures.accepted;
      least = c.in_ok-verified.ensures.least;
      fits = subst (λ (p : ProgramData). IsTrue (fits_program p)) c.program.ensures.same
          c.program.result.now.fits;
      spelled = subst (λ (p : ProgramData). bytes ≡ spelling p) c.program.ensures.same
          c.in_ok-encode.ensures;
    }
