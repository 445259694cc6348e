-- The monitors of a job.
use Rattle.std.specs.Prelude.{◌≡◌, ◌≤◌, ℕ, [], Some, take, slice_get}
use Rattle.vcd_reader.specs.Dump.{Contents}
use Rattle.verifier.specs.Programs.{IsAccepted}
use Rattle.machine_checked.specs.Outcomes.{done}
use Rattle.machine_checked.specs.Machine.{opening, clocks}
use Rattle.workers_core.specs.declared.job.Job.{Job}
use Rattle.workers_core.specs.Opening.{monitor_part, parts_from}
use Rattle.workers_core.specs.Values.{Says, job_value, rows_over}
use Rattle.workers_bench.specs.declared.numbered.Numbered.{Numbered}

-- It is the job's monitor of its number, stands at this clock, has nothing to tell, and is in the
-- checked machine's state over the trace's first rows.
pub record IsMonitorAt (j : Job) (at : ℕ) (x : Numbered) : Type 0 where
  pub part : slice_get (parts_from 0 j.programs.items) x.number
      ≡ Some (monitor_part x.monitor.value)
  pub accepted : IsAccepted x.monitor.value.machine.program
  pub declared : x.monitor.value.machine.program.header.limits.attempts ≤ x.monitor.value.attempts
  pub now : x.monitor.value.machine.state.standing.now ≡ at
  pub since : x.monitor.value.since ≡ at
  pub told : x.monitor.value.decided.items ≡ []
  pub state : (c : Contents) → Says (job_value j) c →
      clocks x.monitor.value.machine.program (opening x.monitor.value.machine.program)
      (take at (rows_over (job_value j) c x.monitor.value.machine.program))
      ≡ done x.monitor.value.machine.state 0
