-- The faults of the layers below as faults of a run or of a verification: want of memory is one
-- fault, wherever it came up.
use Rattle.vcd_reader.specs.declared.fault.VcdFault.{VcdFault}
use Rattle.vcd_reader.specs.declared.fault.VcdFault.TheVariants as dumps
use Rattle.lexer.specs.declared.fault.LexFault.{LexFault}
use Rattle.lexer.specs.declared.fault.LexFault.TheVariants as lexing
use Rattle.parser.specs.declared.fault.ParseFault.{ParseFault}
use Rattle.parser.specs.declared.fault.ParseFault.TheVariants as parsing
use Rattle.types.specs.declared.fault.TypeFault.{TypeFault}
use Rattle.types.specs.declared.fault.TypeFault.TheVariants as types
use Rattle.cycle_window.specs.declared.fault.WindowFault.{WindowFault}
use Rattle.cycle_window.specs.declared.fault.WindowFault.TheVariants as windows
use Rattle.axi4_rules.specs.declared.fault.PortFault.{PortFault}
use Rattle.axi4_rules.specs.declared.fault.PortFault.TheVariants as ports
use Rattle.report_lines.specs.declared.write.ReportFault.{ReportFault}
use Rattle.report_lines.specs.declared.write.ReportFault.TheVariants as reports
use Rattle.compiler.specs.declared.fault.CompileFault.{CompileFault}
use Rattle.compiler.specs.declared.fault.CompileFault.TheVariants as compiles
use Rattle.bytecode.specs.declared.fault.CodeFault.{CodeFault}
use Rattle.bytecode.specs.declared.fault.CodeFault.TheVariants as codes
use Rattle.verifier.specs.declared.refusal.Refusal.{Refusal}
use Rattle.verifier.specs.declared.refusal.Refusal.TheVariants as refusals
use Rattle.cli_faults.specs.declared.fault.Fault.{Fault}
use Rattle.cli_faults.specs.declared.fault.Fault.TheVariants.{Vcd, Lex, Parse, Typing, Window}
use Rattle.cli_faults.specs.declared.fault.Fault.TheVariants.{BadSize, Report}
use Rattle.cli_faults.specs.declared.fault.Fault.TheVariants.{Port, Compile, Code}
use Rattle.cli_faults.specs.declared.fault.Fault.TheVariants.{Refused, Memory}

abbrev pub vcd_fault : VcdFault → Fault
vcd_fault dumps.Memory = Memory
vcd_fault e = Vcd e

abbrev pub lex_fault : LexFault → Fault
lex_fault lexing.Memory = Memory
lex_fault e = Lex e

abbrev pub parse_fault : ParseFault → Fault
parse_fault parsing.Memory = Memory
parse_fault e = Parse e

abbrev pub type_fault : TypeFault → Fault
type_fault types.Memory = Memory
type_fault e = Typing e

abbrev pub compile_fault : CompileFault → Fault
compile_fault compiles.Memory = Memory
compile_fault e = Compile e

abbrev pub window_fault : WindowFault → Fault
window_fault windows.BadSize = BadSize
window_fault windows.Memory = Memory
window_fault e = Window e

abbrev pub port_fault : PortFault → Fault
port_fault ports.Memory = Memory
port_fault e = Port e

abbrev pub report_fault : ReportFault → Fault
report_fault reports.Memory = Memory
report_fault e = Report e

abbrev pub code_fault : CodeFault → Fault
code_fault codes.Memory = Memory
code_fault e = Code e

abbrev pub refusal_fault : Refusal → Fault
refusal_fault refusals.Memory = Memory
refusal_fault r = Refused r
