-- What a run of a program over a source and a sink comes to. The bytes of the program stand where a
-- text does in a run of `cli`.
use Rattle.std.specs.Prelude.{◌≡◌, ℕ, ◌≤◌, List, length, Ok, false}
use Rattle.std.specs.Io.KnownBytes.{Appends}
use Rattle.signals.specs.Source.{after_failure}
use Rattle.signals.specs.Sink.{AppendsFront}
use Rattle.vcd_reader.specs.declared.fault.VcdFault.TheVariants as dumps
use Rattle.vcd_reader.specs.Dump.{Contents, Gave, GaveDump, dump_of, most_bytes}
use Rattle.bytecode_programs.specs.Values.{ProgramData}
use Rattle.bytecode.specs.declared.fault.CodeFault.TheVariants as codes
use Rattle.verifier.specs.declared.refusal.Refusal.TheVariants as refusals
use Rattle.cycle_window.specs.declared.fault.WindowFault.{WindowFault}
use Rattle.cycle_window.specs.declared.fault.WindowFault.TheVariants as windows
use Rattle.report_lines.specs.declared.write.ReportFault.TheVariants as reports
use Rattle.report_lines.specs.Lines.{ReportData}
use Rattle.report_lines.specs.Texts.{report_text}
use Rattle.machine_batches.specs.Reported.{ReportsRun, WhyNoRun}
use Rattle.cli_faults.specs.declared.fault.Fault.{Fault}
use Rattle.cli_faults.specs.declared.fault.Fault.TheVariants.{Vcd, BadSize, BadWorkers, Window}
use Rattle.cli_faults.specs.declared.fault.Fault.TheVariants.{Report, Code}
use Rattle.cli_faults.specs.declared.fault.Fault.TheVariants.{Refused, Memory}
use Rattle.cli_faults.specs.Runs.{Run, totals_of, IsUnwritten, IsUnread, IsOutOfMemory}
use Rattle.cli_faults.specs.Runs.{IsOutOfRange}
use Rattle.cli_faults.specs.Runs.{IsUntouched}
use Rattle.workers_core.specs.Values.{IsBadTeam}
use Rattle.cli_faults.specs.Codes.{SpellsAccepted, WhyNotAccepted}

-- The bytes spell a program that the verifier accepts, and this is its report over the contents of
-- a dump.
pub record HasRunReport (c : Contents) (code : List ℕ) (report : ReportData) : Type 0 where
  pub program : ProgramData
  pub accepted : SpellsAccepted code program
  pub reports : ReportsRun c program report

-- The report on the bytes of a dump and the bytes of a program.
pub record IsRunReport (bytes code : List ℕ) (report : ReportData) : Type 0 where
  pub few : length bytes ≤ most_bytes
  pub contents : Contents
  pub dump : dump_of bytes ≡ Ok contents
  pub has : HasRunReport contents code report

-- The source gave all its bytes, and the text of the report on them and on the program was written
-- and handed on; the totals are its last line's. No call failed.
pub record IsRunAnswered (r : Run) (totals : List ℕ) : Type 0 where
  pub bytes : List ℕ
  pub gave : Gave r.source_before.remaining r.source_after.remaining bytes
  pub report : ReportData
  pub is_report : IsRunReport bytes r.text report
  pub written : Appends r.sink_before.contents r.sink_after.contents (report_text report)
  pub totals_are : totals ≡ totals_of report.total
  pub reads : r.source_after.failures ≡ r.source_before.failures
  pub writes : r.sink_after.failures ≡ r.sink_before.failures
  pub flushed : r.sink_after.keeps_back ≡ false

-- an accepted program whose clock or signals the dump doesn't have as it names them
pub record IsUnbound (c : Contents) (code : List ℕ) (fault : WindowFault) : Type 0 where
  pub program : ProgramData
  pub accepted : SpellsAccepted code program
  pub why : WhyNoRun c.variables program fault

-- why bytes have no report over these contents
abbrev pub WhyNoRunReport : Contents → List ℕ → Fault → Type 0
WhyNoRunReport c code (Code e) = WhyNotAccepted code (Code e)
WhyNoRunReport c code (Refused e) = WhyNotAccepted code (Refused e)
WhyNoRunReport c code (Window windows.Memory) = ⊥
WhyNoRunReport c code (Window e) = IsUnbound c code e
WhyNoRunReport c code Memory = Unit {0}
WhyNoRunReport c code _ = ⊥

-- the source gave a dump over which the bytes have no report, and nothing was written
pub record IsRefusedRun (r : Run) (fault : Fault) : Type 0 where
  pub contents : Contents
  pub gave : GaveDump r.source_before.remaining r.source_after.remaining contents
  pub why : WhyNoRunReport contents r.text fault
  pub reads : r.source_after.failures ≡ r.source_before.failures
  pub unwritten : IsUnwritten r

-- the sink failed, and holds a beginning of the report's text after what it held before
pub record IsCutRun (r : Run) : Type 0 where
  pub bytes : List ℕ
  pub gave : Gave r.source_before.remaining r.source_after.remaining bytes
  pub report : ReportData
  pub is_report : IsRunReport bytes r.text report
  pub reads : r.source_after.failures ≡ r.source_before.failures
  pub failed : r.sink_after.failures ≡ after_failure r.sink_before.failures
  pub front : AppendsFront r.sink_before.contents r.sink_after.contents (report_text report)

-- why there is no report, or not all of it
abbrev pub WhyRunFails : Run → Fault → Type 0
WhyRunFails r (Vcd dumps.Memory) = ⊥
WhyRunFails r (Vcd e) = IsUnread r e
WhyRunFails r (Code codes.Memory) = ⊥
WhyRunFails r (Code e) = IsRefusedRun r (Code e)
WhyRunFails r (Refused refusals.Memory) = ⊥
WhyRunFails r (Refused e) = IsRefusedRun r (Refused e)
WhyRunFails r (Window windows.Memory) = ⊥
WhyRunFails r (Window e) = IsRefusedRun r (Window e)
WhyRunFails r (Report reports.Write) = IsCutRun r
WhyRunFails r Memory = IsOutOfMemory r
WhyRunFails r _ = ⊥

-- why nothing was run, or not all of the report written: first the window's size, then the number
-- of workers
abbrev pub WhyNotRun : ℕ → ℕ → Run → Fault → Type 0
WhyNotRun workers window r BadSize = IsOutOfRange window r
WhyNotRun workers window r BadWorkers =
    (1 ≤ window) × (window ≤ 65536) × IsBadTeam workers × IsUntouched r
WhyNotRun workers window r fault = WhyRunFails r fault
