-- The lines of a job's programs.
use Rattle.std.specs.Prelude.{List}
use Rattle.std.specs.List.{AllZip}
use Rattle.vcd_reader.specs.Dump.{Contents}
use Rattle.report_lines.specs.Lines.{LineData}
use Rattle.machine_batches.specs.Lines.{IsLineOver}
use Rattle.workers_core.specs.Values.{JobValue, rows_over}

-- A line for each program of the job, in order, over the program's rows of the trace.
abbrev pub AreLinesOf : JobValue → Contents → List LineData → Type 0
AreLinesOf j c lines = AllZip (λ p l. IsLineOver p (rows_over j c p) l) j.programs lines
