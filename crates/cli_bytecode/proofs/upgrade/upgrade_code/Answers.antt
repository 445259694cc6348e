use Rattle.cli_faults.specs.Faults.{code_fault}
use Rattle.cli_faults.proofs.FaultLaws.{err_is}
use Rattle.cli_bytecode.specs.Upgrades.{WhyNotUpgraded}
use Rattle.cli_bytecode.proofs.CodeLaws.{not_upgraded}
use Rattle.cli_bytecode.proofs.upgrade.upgrade_code.Goals as goal

pub returns-in_err-upgrade-clause-refused : goal.returns-in_err-upgrade-clause-refused
returns-in_err-upgrade-clause-refused c =
    let bytes = c.args.bytes.now in
    let fault = c.in_err-upgrade.field-0.0 in
    err_is c.from_residual.result (code_fault fault) (WhyNotUpgraded bytes) c.from_residual.ensures.1
    (not_upgraded bytes fault (λ p s. c.in_err-upgrade.ensures.read s.newer p s.fits s.spelled)
    c.in_err-upgrade.ensures.fault)
