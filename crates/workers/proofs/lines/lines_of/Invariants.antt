use Rattle.std.proofs.Common.{◌≡◌, ◌≤◌, ℕ, All, Some, length, map, take}
use Rattle.std.specs.Prelude.{slice_get}
use Rattle.std.specs.List.{AllZip}
use Rattle.bytecode_programs.specs.Values.{ProgramData}
use Rattle.vcd_reader.specs.Dump.{Contents}
use Rattle.report_lines.specs.declared.line.Line.{Line}
use Rattle.report_lines.specs.Lines.{LineData, line}
use Rattle.machine_batches.specs.Lines.{IsLineOver, attempts_of}
use Rattle.workers_core.specs.Values.{Says, job_value, rows_over}
use Rattle.workers_core.specs.declared.growing_line.GrowingLine.{GrowingLine}
use Rattle.workers.specs.Between.{IsTold, clocks_of}
use Rattle.workers.specs.Tallied.{told_by, lines_said}
use Rattle.workers.proofs.lines.lines_of.Given as goal

-- the lines of the programs so far, and what the others told
abbrev pub invariant-loop-number : goal.invariant-loop-number
invariant-loop-number l = record {
  lines : (c : Contents) → Says (job_value l.job) c
      → AllZip (λ (p : ProgramData) (ln : LineData). IsLineOver p (rows_over (job_value l.job) c p) ln)
      (take l.number l.programs) (map line l.lines.items);
  count : All (λ (ln : Line). attempts_of ln.counts ≡ clocks_of l.job) l.lines.items;
  long : length l.told.items ≡ length l.programs;
  rest : (i : ℕ) (x : GrowingLine) → l.number ≤ i → slice_get l.told.items i ≡ Some x
      → IsTold l.job (clocks_of l.job) i x;
  same : (i : ℕ) → l.number ≤ i → slice_get l.told.items i ≡ slice_get l.fn.told.items i;
  kinds : (k : ℕ) → lines_said k l.lines.items ≡ told_by k (take l.number l.fn.told.items);
}
