-- The report of a job.
use Rattle.std.specs.Prelude.{◌≡◌, length}
use Rattle.vcd_reader.specs.Dump.{Contents}
use Rattle.report_lines.specs.Lines.{ReportData, report_of}
use Rattle.workers_core.specs.Values.{JobValue}
use Rattle.workers_core.specs.Lines.{AreLinesOf}

-- A line for each program of the job, over all clocks of the trace, and the sums of the lines'
-- counts. It knows no workers, no windows and no gate.
pub record IsJobReport (j : JobValue) (c : Contents) (report : ReportData) : Type 0 where
  pub lines : AreLinesOf j c report.lines
  pub is : report ≡ report_of (length j.ticks) report.lines
