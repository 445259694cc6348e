use Rattle.vcd_reader.proofs.ResumedLaws.{resumed-err}
use Rattle.workers.proofs.runs.run.Goals as goal

pub returns-in_err-job_report-clause-fault : goal.returns-in_err-job_report-clause-fault
returns-in_err-job_report-clause-fault g c =
    let size = c.in-Ok.ensures.good in
    let team = c.in_ok-team.ensures.good in
    rw (resumed-err _ _ c.from_residual-in_err-job_report.ensures.1)
    (size.0, size.1, team.0, team.1)
