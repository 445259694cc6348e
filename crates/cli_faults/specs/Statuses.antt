-- The statuses that a shell sees.
use Rattle.std.specs.Prelude.{ℕ, ◌==◌, List, Result, Ok, Err, if◌then◌else◌, slice_index}
use Rattle.lexer.specs.declared.fault.LexFault.TheVariants as lexing
use Rattle.parser.specs.declared.fault.ParseFault.TheVariants as parsing
use Rattle.types.specs.declared.fault.TypeFault.TheVariants as types
use Rattle.compiler.specs.declared.fault.CompileFault.TheVariants as compiles
use Rattle.vcd_reader.specs.declared.fault.VcdFault.TheVariants as dumps
use Rattle.cycle_window.specs.declared.fault.WindowFault.TheVariants as windows
use Rattle.axi4_rules.specs.declared.fault.PortFault.TheVariants as ports
use Rattle.report_lines.specs.declared.write.ReportFault.TheVariants as reports
use Rattle.bytecode.specs.declared.fault.CodeFault.TheVariants as codes
use Rattle.verifier.specs.declared.refusal.Refusal.TheVariants as refusals
use Rattle.cli_words.specs.declared.fault.WordsFault.TheVariants as words
use Rattle.cli_faults.specs.declared.fault.Fault.{Fault}
use Rattle.cli_faults.specs.declared.fault.Fault.TheVariants.{Vcd, Lex, Parse, Typing, Window}
use Rattle.cli_faults.specs.declared.fault.Fault.TheVariants.{Report}
use Rattle.cli_faults.specs.declared.fault.Fault.TheVariants.{
  Port,
  Compile,
  Code,
  Refused,
  Words,
  File,
  Memory,
}

-- 3 for memory, 4 for a file or a device, and 2 for all else
abbrev pub fault_status_of : Fault → ℕ
fault_status_of (Vcd dumps.Read) = 4
fault_status_of (Vcd dumps.Memory) = 3
fault_status_of (Lex lexing.Memory) = 3
fault_status_of (Parse parsing.Memory) = 3
fault_status_of (Typing types.Memory) = 3
fault_status_of (Compile compiles.Memory) = 3
fault_status_of (Window windows.Memory) = 3
fault_status_of (Port ports.Memory) = 3
fault_status_of (Report reports.Write) = 4
fault_status_of (Report reports.Memory) = 3
fault_status_of (Code codes.Memory) = 3
fault_status_of (Refused refusals.Memory) = 3
fault_status_of (Words words.OutOfMemory) = 3
fault_status_of (File file) = 4
fault_status_of Memory = 3
fault_status_of _ = 2

-- 0 where no attempt failed, 1 where some did; the third total is that of the failures
abbrev pub status_of : Result (List ℕ) Fault → ℕ
status_of (Ok totals) = if slice_index totals 2 == 0 then 0 else 1
status_of (Err fault) = fault_status_of fault
