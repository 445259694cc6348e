-- The faults of the layer below as faults of a job.
use Rattle.cycle_window.specs.declared.fault.WindowFault.{WindowFault}
use Rattle.cycle_window.specs.declared.fault.WindowFault.TheVariants as windows
use Rattle.workers_core.specs.declared.job_fault.JobFault.{JobFault}
use Rattle.workers_core.specs.declared.job_fault.JobFault.TheVariants as faults

-- want of memory is one fault, wherever it came up
abbrev pub window_fault : WindowFault → JobFault
window_fault windows.Memory = faults.Memory
window_fault e = faults.Window e
