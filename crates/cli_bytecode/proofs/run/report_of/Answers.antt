use Rattle.cli_faults.specs.Faults.{window_fault}
use Rattle.cli_faults.proofs.FaultLaws.{err_is}
use Rattle.cli_bytecode.specs.Outcomes.{WhyNoRunReport}
use Rattle.cli_bytecode.proofs.RunLaws.{unbound}
use Rattle.cli_bytecode.proofs.run.report_of.Goals as goal

pub returns-in_err-report_run-clause-err : goal.returns-in_err-report_run-clause-err
returns-in_err-report_run-clause-err g c = λ k holds.
    let fault = c.in_err-report_run.field-0.0 in
    err_is c.from_residual-in_err-report_run.result (window_fault fault)
    (WhyNoRunReport k c.args.code.now) c.from_residual-in_err-report_run.ensures.1
    (unbound k c.args.code.now c.in_ok-verified.verified c.in_ok-verified.ensures.ok fault
    (c.in_err-report_run.ensures.refused k holds))

pub returns-clause-ok : goal.returns-clause-ok
returns-clause-ok g c = λ k holds. record {
  program = c.in_ok-verified.verified;
  accepted = c.in_ok-verified.ensures.ok;
  reports = c.in_ok-report_run.ensures.report k holds;
}
