use Rattle.std.proofs.Common.{arith}
use Rattle.vcd_reader.proofs.ResumedLaws.{resumed-err}
use Rattle.workers_core.proofs.cores.Core.new.Goals as goal

pub returns-in_err-of_sizes-clause-fault : goal.returns-in_err-of_sizes-clause-fault
returns-in_err-of_sizes-clause-fault c =
    let size = c.in-Ok.ensures.good in
    let team = c.in_ok-team.ensures.good in
    rw (resumed-err _ _ c.from_residual-in_err-of_sizes.ensures.1)
    (size.0, size.1, team.0, team.1)
