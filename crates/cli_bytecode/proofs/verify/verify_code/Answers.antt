use Rattle.std.proofs.Common.{subst}
use Rattle.bytecode_programs.specs.declared.limits.Limits.{Limits}
use Rattle.report_lines.specs.Written.{WhyUnwritten}
use Rattle.cli_bytecode.specs.Limits.{limits_text}
use Rattle.cli_faults.specs.Faults.{report_fault}
use Rattle.cli_bytecode.specs.Verifications.{WhyNotTold, verification_of}
use Rattle.cli_faults.proofs.FaultLaws.{err_is}
use Rattle.cli_bytecode.proofs.VerifyLaws.{unwritten_line}
use Rattle.cli_bytecode.proofs.verify.verify_code.Goals as goal

pub returns-in_err-write_limits-clause-refused : goal.returns-in_err-write_limits-clause-refused
returns-in_err-write_limits-clause-refused g c =
    let before = g.W.Sink.state c.args.out.now in
    let after = g.W.Sink.state c.write_limits.new.out in
    let v = verification_of c.args.bytes.now before after in
    let fault = c.in_err-write_limits.field-0.0 in
    err_is c.from_residual-in_err-write_limits.result (report_fault fault) (WhyNotTold v)
    c.from_residual-in_err-write_limits.ensures.1
    (unwritten_line v c.in_ok-verified.verified fault c.in_ok-verified.ensures.ok
    (subst (λ (l : Limits). WhyUnwritten before after (limits_text l) fault)
    c.limits.ensures c.in_err-write_limits.ensures.refused))
