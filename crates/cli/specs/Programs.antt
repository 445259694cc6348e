-- The faults of a suite's lines by programs, as faults of a command.
use Rattle.report_programs.specs.declared.fault.LinesFault.{LinesFault}
use Rattle.report_programs.specs.declared.fault.LinesFault.TheVariants.{Program}
use Rattle.report_programs.specs.declared.fault.LinesFault.TheVariants as lines
use Rattle.cli_faults.specs.declared.fault.Fault.{Fault}
use Rattle.cli_faults.specs.declared.fault.Fault.TheVariants.{BadJob, Memory}
use Rattle.cli_faults.specs.Faults.{compile_fault}

abbrev pub lines_fault : LinesFault → Fault
lines_fault (Program e) = compile_fault e
lines_fault lines.BadJob = BadJob
lines_fault lines.Memory = Memory
