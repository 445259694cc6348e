-- What a run comes to once its report is there and was to be written.
use Rattle.std.proofs.Common.{◌≡◌, ℕ, List}
use Rattle.std.specs.Prelude.{Result, Ok, Err, OnOk, IfOk, IfErr, false}
use Rattle.std.specs.Io.KnownBytes.{Appends}
use Rattle.vcd_reader.specs.Dump.{Gave}
use Rattle.report_lines.specs.declared.write.ReportFault.TheVariants as reports
use Rattle.report_lines.specs.Lines.{ReportData}
use Rattle.report_lines.specs.Texts.{report_text}
use Rattle.cli_faults.specs.declared.fault.Fault.{Fault}
use Rattle.cli_faults.specs.declared.fault.Fault.TheVariants.{
  Vcd,
  Lex,
  Parse,
  Typing,
  Compile,
  BadSize,
  BadWorkers,
  BadJob,
  Window,
  Port,
  Report,
  Code,
  Refused,
  NoAssertion,
  NotText,
  Words,
  File,
  Memory,
}
use Rattle.cli_faults.specs.Runs.{Run, totals_of, WhyNotWritten}
use Rattle.cli_bytecode.specs.Outcomes.{IsRunReport, IsRunAnswered, WhyRunFails}

module _ (r : Run) (report : ReportData) (bytes : List ℕ)
    (gave : Gave r.source_before.remaining r.source_after.remaining bytes)
    (is_report : IsRunReport bytes r.text report)
    (reads : r.source_after.failures ≡ r.source_before.failures) where
  pub answered : (five : Result (List ℕ) Fault)
      → OnOk five (Appends r.sink_before.contents r.sink_after.contents (report_text report))
      → OnOk five (r.sink_after.failures ≡ r.sink_before.failures)
      → OnOk five (r.sink_after.keeps_back ≡ false)
      → IfOk five (λ totals. totals ≡ totals_of report.total) → IfOk five (IsRunAnswered r)
  answered (Ok five) written counted flushed totals = record {
    bytes = bytes;
    gave = gave;
    report = report;
    is_report = is_report;
    written = written;
    totals_are = totals;
    reads = reads;
    writes = counted;
    flushed = flushed;
  }
  answered (Err e) written counted flushed totals = tt

  not_written : (e : Fault)
      → WhyNotWritten r.sink_before r.sink_after (report_text report) e → WhyRunFails r e
  not_written (Report reports.Write) h = record {
    bytes = bytes;
    gave = gave;
    report = report;
    is_report = is_report;
    reads = reads;
    failed = h.0;
    front = h.1;
  }
  not_written (Report reports.Memory) h = absurd h
  not_written Memory h = record { reads = reads; unwritten = record { held = h.1; counted = h.0 } }
  not_written (Vcd e) h = absurd h
  not_written (Lex e) h = absurd h
  not_written (Parse e) h = absurd h
  not_written (Typing e) h = absurd h
  not_written (Compile e) h = absurd h
  not_written BadSize h = absurd h
  not_written BadWorkers h = absurd h
  not_written BadJob h = absurd h
  not_written (Window e) h = absurd h
  not_written (Port e) h = absurd h
  not_written (Code e) h = absurd h
  not_written (Refused e) h = absurd h
  not_written (NoAssertion n) h = absurd h
  not_written (NotText n) h = absurd h
  not_written (Words e) h = absurd h
  not_written (File n) h = absurd h

  pub cut : (five : Result (List ℕ) Fault)
      → IfErr five (WhyNotWritten r.sink_before r.sink_after (report_text report))
      → IfErr five (WhyRunFails r)
  cut (Ok five) h = tt
  cut (Err e) h = not_written e h
