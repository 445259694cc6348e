-- What a run comes to where the dump was read.
use Rattle.std.proofs.Common.{◌≡◌}
use Rattle.parser.specs.declared.fault.ParseFault.{ParseFault}
use Rattle.parser.specs.declared.fault.ParseFault.TheVariants as parsing
use Rattle.compiler.specs.declared.fault.CompileFault.{CompileFault}
use Rattle.compiler.specs.declared.fault.CompileFault.TheVariants as compiles
use Rattle.vcd_reader.specs.declared.fault.VcdFault.{VcdFault}
use Rattle.vcd_reader.specs.declared.fault.VcdFault.TheVariants as dumps
use Rattle.vcd_reader.specs.Dump.{Contents, GaveDump, Stands}
use Rattle.cli_faults.specs.Faults.{vcd_fault}
use Rattle.cli_faults.specs.declared.fault.Fault.{Fault}
use Rattle.cli_faults.specs.declared.fault.Fault.TheVariants.{
  Vcd,
  Lex,
  Parse,
  Typing,
  Compile,
  BadSize,
  BadWorkers,
  BadJob,
  Window,
  Port,
  Report,
  Code,
  Refused,
  NoAssertion,
  NotText,
  Words,
  File,
  Memory,
}
use Rattle.cli_faults.specs.Runs.{Run, IsUnwritten}
use Rattle.cli.specs.Outcomes.{
  WhyNoReport,
  IsRefusedReport,
  WhyRunRefused,
  IsNotCompiled,
  WhyNoneByPrograms,
  IsUncompiled,
  WhyCheckRefused,
}

module _ (r : Run) (c : Contents) (gave : GaveDump r.source_before.remaining r.source_after.remaining c)
    (reads : r.source_after.failures ≡ r.source_before.failures) (unwritten : IsUnwritten r) where
  refused : (e : Fault) → WhyNoReport c r.text e → IsRefusedReport r e
  refused e h = record { contents = c; gave = gave; why = h; reads = reads; unwritten = unwritten }

  refused_form : (e : ParseFault) → WhyNoReport c r.text (Parse e) → WhyRunRefused r (Parse e)
  refused_form (parsing.Expected what at) h = refused (Parse (parsing.Expected what at)) h
  refused_form (parsing.OutsideProfile word at) h =
      refused (Parse (parsing.OutsideProfile word at)) h
  refused_form (parsing.TooDeep at) h = refused (Parse (parsing.TooDeep at)) h
  refused_form (parsing.BadBound at) h = refused (Parse (parsing.BadBound at)) h
  refused_form parsing.Memory h = h

  -- a fault of the text refuses the run
  pub refused_run : (e : Fault) → WhyNoReport c r.text e → WhyRunRefused r e
  refused_run (Vcd e) h = absurd h
  refused_run (Lex e) h = refused (Lex e) h
  refused_run (Parse e) h = refused_form e h
  refused_run (Typing e) h = refused (Typing e) h
  refused_run (Compile e) h = absurd h
  refused_run BadSize h = absurd h
  refused_run BadWorkers h = absurd h
  refused_run BadJob h = absurd h
  refused_run (Window e) h = refused (Window e) h
  refused_run (Port e) h = absurd h
  refused_run (Report e) h = absurd h
  refused_run (Code e) h = absurd h
  refused_run (Refused e) h = absurd h
  refused_run (NoAssertion n) h = absurd h
  refused_run (NotText n) h = absurd h
  refused_run (Words e) h = absurd h
  refused_run (File n) h = absurd h
  refused_run Memory h = record { reads = reads; unwritten = unwritten }

  uncompiled : (e : CompileFault) → IsNotCompiled c r.text e → IsUncompiled r e
  uncompiled e h =
      record { contents = c; gave = gave; why = h; reads = reads; unwritten = unwritten }

  refused_program : (e : CompileFault) → WhyNoneByPrograms c r.text (Compile e)
      → WhyCheckRefused r (Compile e)
  refused_program compiles.TooManyAtoms h = uncompiled compiles.TooManyAtoms h
  refused_program compiles.CodeTooLong h = uncompiled compiles.CodeTooLong h
  refused_program compiles.TooManySlots h = uncompiled compiles.TooManySlots h
  refused_program compiles.TextTooLong h = uncompiled compiles.TextTooLong h
  refused_program compiles.Memory h = h

  -- a fault of the text or of an assertion refuses the check
  pub refused_check : (e : Fault) → WhyNoneByPrograms c r.text e → WhyCheckRefused r e
  refused_check (Compile e) h = refused_program e h
  refused_check BadJob h =
      record { contents = c; gave = gave; why = h; reads = reads; unwritten = unwritten }
  refused_check e h = refused_run e h

-- a dump that wasn't read refuses the run
pub unread : (r : Run) → IsUnwritten r → (e : VcdFault)
    → Stands r.source_before r.source_after e → WhyRunRefused r (vcd_fault e)
unread r unwritten (dumps.BadToken at) h = record { stands = h; unwritten = unwritten }
unread r unwritten (dumps.UnknownCode at) h = record { stands = h; unwritten = unwritten }
unread r unwritten (dumps.TimeBack at) h = record { stands = h; unwritten = unwritten }
unread r unwritten (dumps.UnclosedSection at) h = record { stands = h; unwritten = unwritten }
unread r unwritten (dumps.BadSize at) h = record { stands = h; unwritten = unwritten }
unread r unwritten dumps.Truncated h = record { stands = h; unwritten = unwritten }
unread r unwritten dumps.TooLarge h = record { stands = h; unwritten = unwritten }
unread r unwritten dumps.Read h = record { stands = h; unwritten = unwritten }
unread r unwritten dumps.Memory h = record { reads = h.0; unwritten = unwritten }

-- and the check
pub unread_check : (r : Run) → IsUnwritten r → (e : VcdFault)
    → Stands r.source_before r.source_after e → WhyCheckRefused r (vcd_fault e)
unread_check r unwritten dumps.Memory h = unread r unwritten dumps.Memory h
unread_check r unwritten e h = unread r unwritten e h
