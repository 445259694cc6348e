use Rattle.std.proofs.Common.{◌≡◌, ◌≤◌, ℕ, All, Some, length, map, take}
use Rattle.std.specs.Prelude.{slice_get}
use Rattle.std.specs.List.{AllZip}
use Rattle.bytecode_programs.specs.Values.{ProgramData}
use Rattle.vcd_reader.specs.Dump.{Contents}
use Rattle.report_lines.specs.declared.line.Line.{Line}
use Rattle.report_lines.specs.Lines.{LineData, line}
use Rattle.machine_batches.specs.Lines.{IsLineOver, attempts_of}
use Rattle.workers_core.specs.States.{published_by}
use Rattle.workers_core.specs.Values.{Says, rows_over}
use Rattle.workers_core.specs.declared.growing_line.GrowingLine.{GrowingLine}
use Rattle.workers_core.specs.Taken.{TookIn}
use Rattle.workers_core.proofs.lines.lines_of.Given as goal

-- the lines of the programs so far, and what the others published
abbrev pub invariant-loop-number : goal.invariant-loop-number
invariant-loop-number l = record {
  lines : (c : Contents) → Says l.core.job c
      → AllZip (λ (p : ProgramData) (ln : LineData). IsLineOver p (rows_over l.core.job c p) ln)
      (take l.number l.programs) (map line l.lines.items);
  count : All (λ (ln : Line). attempts_of ln.counts ≡ length l.core.job.ticks) l.lines.items;
  long : length l.published.items ≡ length l.programs;
  rest : (i : ℕ) (x : GrowingLine) → l.number ≤ i → slice_get l.published.items i ≡ Some x
      → TookIn x (published_by l.core.state.board i);
}
