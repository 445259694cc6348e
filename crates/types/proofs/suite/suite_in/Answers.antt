use Rattle.types.proofs.StageLaws.{refused_memory}
use Rattle.types.proofs.suite.suite_in.Goals as goal

pub returns-in_err-clock-clause-refused : goal.returns-in_err-clock-clause-refused
returns-in_err-clock-clause-refused c = refused_memory _ _ c.from_residual.result c.from_residual.ensures.1

pub returns-in_err-columns-clause-refused : goal.returns-in_err-columns-clause-refused
returns-in_err-columns-clause-refused c =
    refused_memory _ _ c.from_residual-in_err-columns.result c.from_residual-in_err-columns.ensures.1
