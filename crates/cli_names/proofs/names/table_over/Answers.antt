use Rattle.cli_names.specs.declared.fault.NamesFault.TheVariants.{Memory}
use Rattle.cli_names.specs.Faults.{vcd_fault, WhyNoTableOver}
use Rattle.cli_names.proofs.ReadLaws.{no-table}
use Rattle.cli_names.proofs.ToldLaws.{err_is}
use Rattle.cli_names.proofs.names.table_over.Goals as goal

pub returns-in_err-dump-clause-refused : goal.returns-in_err-dump-clause-refused
returns-in_err-dump-clause-refused c =
    let fault = c.in_err-dump.field-0.0 in
    err_is c.from_residual.result (vcd_fault fault) (WhyNoTableOver c.args.bytes.now) c.from_residual.ensures.1
    (no-table c.args.bytes.now fault c.in_err-dump.ensures.refused)

pub returns-in_err-table_in-clause-refused : goal.returns-in_err-table_in-clause-refused
returns-in_err-table_in-clause-refused c =
    err_is c.from_residual-in_err-table_in.result Memory (WhyNoTableOver c.args.bytes.now)
    c.from_residual-in_err-table_in.ensures.1 (λ before after gave same. same)
