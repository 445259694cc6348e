use Rattle.bytecode_programs.specs.Programs.{data_of}
use Rattle.cli_faults.specs.Faults.{code_fault, refusal_fault}
use Rattle.cli_faults.specs.Codes.{SpellsProgram, WhyNotAccepted}
use Rattle.cli_faults.proofs.FaultLaws.{err_is}
use Rattle.cli_bytecode.proofs.CodeLaws.{not_spelled}
use Rattle.cli_bytecode.proofs.VerifyLaws.{refused_code}
use Rattle.cli_bytecode.proofs.verify.verified_of.Goals as goal

pub returns-in_err-program-clause-err : goal.returns-in_err-program-clause-err
returns-in_err-program-clause-err c =
    let bytes = c.args.bytes.now in
    let fault = c.in_err-program.field-0.0 in
    err_is c.from_residual.result (code_fault fault) (WhyNotAccepted bytes) c.from_residual.ensures.1
    (not_spelled bytes fault (λ p s. c.in_err-program.ensures.read s.newer p s.fits s.spelled)
    c.in_err-program.ensures.fault)

pub returns-in_err-verify-clause-err : goal.returns-in_err-verify-clause-err
returns-in_err-verify-clause-err c =
    let bytes = c.args.bytes.now in
    let program = data_of c.in_ok-program.program in
    let fault = c.in_err-verify.field-0.0 in
    let spells : SpellsProgram bytes program =
    let s = c.in_ok-program.ensures.spelled in
    record { newer = s.0; fits = s.1; spelled = s.2 } in
    err_is c.from_residual-in_err-verify.result (refusal_fault fault) (WhyNotAccepted bytes)
    c.from_residual-in_err-verify.ensures.1
    (refused_code bytes program spells fault c.in_err-verify.ensures.refused
    c.in_err-verify.ensures.first)

pub returns-clause-ok : goal.returns-clause-ok
returns-clause-ok c =
    let spells : SpellsProgram c.args.bytes.now (data_of c.in_ok-program.program) =
    let s = c.in_ok-program.ensures.spelled in
    record { newer = s.0; fits = s.1; spelled = s.2 } in
    rw c.in_ok-verify.ensures.same
    record { spells = spells; accepted = c.in_ok-verify.ensures.accepted }
