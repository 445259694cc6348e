use Rattle.vcd_reader.specs.Held.{variables_of}
use Rattle.vcd_reader.proofs.ResumedLaws.{resumed-err}
use Rattle.workers_core.proofs.JobLaws.{clock-why}
use Rattle.workers_core.proofs.job.Job.new.Goals as goal

pub returns-in_err-clocks-clause-fault : goal.returns-in_err-clocks-clause-fault
returns-in_err-clocks-clause-fault c =
    rw (resumed-err _ _ c.from_residual.ensures.1)
    (clock-why (variables_of c.args.dump) c.args.clock.now c.args.programs.items
    c.in_err-clocks.field-0.0 c.in_err-clocks.ensures.fault)
