-- What a run comes to where the dump was read.
use Rattle.std.proofs.Common.{◌≡◌, ℕ, List}
use Rattle.vcd_reader.specs.declared.fault.VcdFault.{VcdFault}
use Rattle.vcd_reader.specs.declared.fault.VcdFault.TheVariants as dumps
use Rattle.vcd_reader.specs.Dump.{Contents, GaveDump, Stands}
use Rattle.bytecode_programs.specs.Values.{ProgramData}
use Rattle.bytecode.specs.declared.fault.CodeFault.{CodeFault}
use Rattle.bytecode.specs.declared.fault.CodeFault.TheVariants as codes
use Rattle.verifier.specs.declared.refusal.Refusal.{Refusal}
use Rattle.verifier.specs.declared.refusal.Refusal.TheVariants as refusals
use Rattle.cycle_window.specs.declared.fault.WindowFault.{WindowFault}
use Rattle.cycle_window.specs.declared.fault.WindowFault.TheVariants as windows
use Rattle.machine_batches.specs.Reported.{WhyNoRun}
use Rattle.cli_faults.specs.Faults.{vcd_fault, window_fault}
use Rattle.cli_faults.specs.declared.fault.Fault.{Fault}
use Rattle.cli_faults.specs.declared.fault.Fault.TheVariants.{
  Vcd,
  Lex,
  Parse,
  Typing,
  Compile,
  Window,
  Port,
}
use Rattle.cli_faults.specs.declared.fault.Fault.TheVariants.{BadSize, BadWorkers, BadJob}
use Rattle.cli_faults.specs.declared.fault.Fault.TheVariants.{Report, Code}
use Rattle.cli_faults.specs.declared.fault.Fault.TheVariants.{Refused, NoAssertion, NotText, Words, File}
use Rattle.cli_faults.specs.declared.fault.Fault.TheVariants.{Memory}
use Rattle.cli_faults.specs.Runs.{Run, IsUnwritten}
use Rattle.cli_faults.specs.Codes.{SpellsAccepted, WhyNotAccepted}
use Rattle.cli_bytecode.specs.Outcomes.{WhyNoRunReport, IsRefusedRun, WhyRunFails}

-- bytes that spell no accepted program have no report
pub no_program : (c : Contents) (code : List ℕ) (e : Fault) → WhyNotAccepted code e
    → WhyNoRunReport c code e
no_program c code (Code e) h = h
no_program c code (Refused e) h = h
no_program c code Memory h = tt
no_program c code (Vcd e) h = absurd h
no_program c code (Lex e) h = absurd h
no_program c code (Parse e) h = absurd h
no_program c code (Typing e) h = absurd h
no_program c code (Compile e) h = absurd h
no_program c code BadSize h = absurd h
no_program c code BadWorkers h = absurd h
no_program c code BadJob h = absurd h
no_program c code (Window e) h = absurd h
no_program c code (Port e) h = absurd h
no_program c code (Report e) h = absurd h
no_program c code (NoAssertion n) h = absurd h
no_program c code (NotText n) h = absurd h
no_program c code (Words e) h = absurd h
no_program c code (File n) h = absurd h

-- nor has a program whose clock or signals are not there
pub unbound : (c : Contents) (code : List ℕ) (p : ProgramData) → SpellsAccepted code p
    → (e : WindowFault) → WhyNoRun c.variables p e
    → WhyNoRunReport c code (window_fault e)
unbound c code p accepted windows.NoClock h =
    record { program = p; accepted = accepted; why = h }
unbound c code p accepted windows.ClockWidth h =
    record { program = p; accepted = accepted; why = h }
unbound c code p accepted windows.BadSize h = absurd h
unbound c code p accepted (windows.NoSignal path) h =
    record { program = p; accepted = accepted; why = h }
unbound c code p accepted (windows.SignalWidth path) h =
    record { program = p; accepted = accepted; why = h }
unbound c code p accepted windows.Memory h = tt

module _ (r : Run) (c : Contents) (gave : GaveDump r.source_before.remaining r.source_after.remaining c)
    (reads : r.source_after.failures ≡ r.source_before.failures) (unwritten : IsUnwritten r) where
  refused : (e : Fault) → WhyNoRunReport c r.text e → IsRefusedRun r e
  refused e h = record { contents = c; gave = gave; why = h; reads = reads; unwritten = unwritten }

  refused_window : (e : WindowFault) → WhyNoRunReport c r.text (Window e)
      → WhyRunFails r (Window e)
  refused_window windows.NoClock h = refused (Window windows.NoClock) h
  refused_window windows.ClockWidth h = refused (Window windows.ClockWidth) h
  refused_window windows.BadSize h = refused (Window windows.BadSize) h
  refused_window (windows.NoSignal path) h = refused (Window (windows.NoSignal path)) h
  refused_window (windows.SignalWidth path) h = refused (Window (windows.SignalWidth path)) h
  refused_window windows.Memory h = absurd h

  refused_code : (e : CodeFault) → WhyNoRunReport c r.text (Code e)
      → WhyRunFails r (Code e)
  refused_code codes.Magic h = refused (Code codes.Magic) h
  refused_code codes.Version h = refused (Code codes.Version) h
  refused_code (codes.Truncated at) h = refused (Code (codes.Truncated at)) h
  refused_code (codes.BadOpcode at) h = refused (Code (codes.BadOpcode at)) h
  refused_code (codes.BadField at) h = refused (Code (codes.BadField at)) h
  refused_code (codes.TrailingBytes at) h = refused (Code (codes.TrailingBytes at)) h
  refused_code codes.Memory h = absurd h

  refused_program : (e : Refusal) → WhyNoRunReport c r.text (Refused e)
      → WhyRunFails r (Refused e)
  refused_program (refusals.Operand pc) h = refused (Refused (refusals.Operand pc)) h
  refused_program (refusals.Underflow pc) h = refused (Refused (refusals.Underflow pc)) h
  refused_program (refusals.Overflow pc) h = refused (Refused (refusals.Overflow pc)) h
  refused_program (refusals.JumpRange pc) h = refused (Refused (refusals.JumpRange pc)) h
  refused_program (refusals.BackwardJump pc) h = refused (Refused (refusals.BackwardJump pc)) h
  refused_program (refusals.JoinMismatch pc) h = refused (Refused (refusals.JoinMismatch pc)) h
  refused_program (refusals.Unreached pc) h = refused (Refused (refusals.Unreached pc)) h
  refused_program (refusals.SlotRange pc) h = refused (Refused (refusals.SlotRange pc)) h
  refused_program (refusals.HistoryTooShort least) h =
      refused (Refused (refusals.HistoryTooShort least)) h
  refused_program (refusals.StackTooShort least) h =
      refused (Refused (refusals.StackTooShort least)) h
  refused_program (refusals.Cycle position) h = refused (Refused (refusals.Cycle position)) h
  refused_program (refusals.PoolTooSmall pool least) h =
      refused (Refused (refusals.PoolTooSmall pool least)) h
  refused_program (refusals.BudgetTooSmall least) h =
      refused (Refused (refusals.BudgetTooSmall least)) h
  refused_program (refusals.LimitTooLarge field) h =
      refused (Refused (refusals.LimitTooLarge field)) h
  refused_program (refusals.AcceptKind pc) h = refused (Refused (refusals.AcceptKind pc)) h
  refused_program refusals.NoHalt h = refused (Refused refusals.NoHalt) h
  refused_program refusals.Memory h = absurd h

  -- a fault of the program refuses the run
  pub refused_run : (e : Fault) → WhyNoRunReport c r.text e → WhyRunFails r e
  refused_run (Window e) h = refused_window e h
  refused_run (Code e) h = refused_code e h
  refused_run (Refused e) h = refused_program e h
  refused_run Memory h = record { reads = reads; unwritten = unwritten }
  refused_run (Vcd e) h = absurd h
  refused_run (Lex e) h = absurd h
  refused_run (Parse e) h = absurd h
  refused_run (Typing e) h = absurd h
  refused_run (Compile e) h = absurd h
  refused_run BadSize h = absurd h
  refused_run BadWorkers h = absurd h
  refused_run BadJob h = absurd h
  refused_run (Port e) h = absurd h
  refused_run (Report e) h = absurd h
  refused_run (NoAssertion n) h = absurd h
  refused_run (NotText n) h = absurd h
  refused_run (Words e) h = absurd h
  refused_run (File n) h = absurd h

-- a dump that wasn't read refuses the run
pub unread : (r : Run) → IsUnwritten r → (e : VcdFault)
    → Stands r.source_before r.source_after e → WhyRunFails r (vcd_fault e)
unread r unwritten (dumps.BadToken at) h = record { stands = h; unwritten = unwritten }
unread r unwritten (dumps.UnknownCode at) h = record { stands = h; unwritten = unwritten }
unread r unwritten (dumps.TimeBack at) h = record { stands = h; unwritten = unwritten }
unread r unwritten (dumps.UnclosedSection at) h = record { stands = h; unwritten = unwritten }
unread r unwritten (dumps.BadSize at) h = record { stands = h; unwritten = unwritten }
unread r unwritten dumps.Truncated h = record { stands = h; unwritten = unwritten }
unread r unwritten dumps.TooLarge h = record { stands = h; unwritten = unwritten }
unread r unwritten dumps.Read h = record { stands = h; unwritten = unwritten }
unread r unwritten dumps.Memory h = record { reads = h.0; unwritten = unwritten }
