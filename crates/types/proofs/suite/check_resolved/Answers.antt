use Rattle.types.proofs.StageLaws.{refused_memory}
use Rattle.types.proofs.suite.check_resolved.Goals as goal

pub returns-in_err-sides-clause-err : goal.returns-in_err-sides-clause-err
returns-in_err-sides-clause-err c =
    λ s items clear sides consequents. refused_memory s items c.from_residual.result c.from_residual.ensures.1
