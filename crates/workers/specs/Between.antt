-- A run between two rounds.
use Rattle.std.specs.Prelude.{◌≡◌, ◌+◌, ◌≤◌, ℕ, List, Some, All, length, min, slice_get}
use Rattle.bytecode_programs.specs.Values.{ProgramData}
use Rattle.vcd_reader.specs.Dump.{Contents}
use Rattle.cycle_window.specs.declared.window.Window.{Window}
use Rattle.cycle_window.specs.Held.{ticks_in, size_in, first_in, end_in}
use Rattle.machine_batches.specs.Batches.{batch_of}
use Rattle.machine_batches.specs.Lines.{attempts_of}
use Rattle.workers_core.specs.declared.job.Job.{Job}
use Rattle.workers_core.specs.Values.{Says, job_value, rows_over}
use Rattle.workers_core.specs.declared.growing_line.GrowingLine.{GrowingLine}
use Rattle.workers_core.specs.Taken.{TookIn}
use Rattle.workers_bench.specs.declared.numbered.Numbered.{Numbered}
use Rattle.workers_bench.specs.Monitors.{IsMonitorAt}
use Rattle.workers_bench.specs.Windows.{IsWindowFor}
use Rattle.workers_bench.specs.Hands.{numbers}
use Rattle.workers.specs.Runs.{upto}

-- The line in the making took in all that the program of its number decides before this clock.
pub record IsTold (j : Job) (at i : ℕ) (l : GrowingLine) : Type 0 where
  pub took : (c : Contents) → Says (job_value j) c → (p : ProgramData) →
      slice_get j.programs.items i ≡ Some p →
      TookIn l (batch_of p (rows_over (job_value j) c p) 0 at)
  pub few : attempts_of l.counts ≤ at

-- how many clocks the trace has
abbrev pub clocks_of : Job → ℕ
clocks_of j = length (ticks_in j.clocks)

-- All monitors stand at the window's end, in source order, and the lines took in all before it.
pub record IsBetween (j : Job) (w : Window) (ms : List Numbered) (ls : List GrowingLine) :
    Type 0 where
  pub window : IsWindowFor j w
  pub size : (1 ≤ size_in w) × (size_in w ≤ 65536)
  pub inside : end_in w ≤ clocks_of j
  pub order : numbers ms ≡ upto 0 (length j.programs.items)
  pub many : length ms ≡ length j.programs.items
  pub at : All (IsMonitorAt j (end_in w)) ms
  pub lines : length ls ≡ length j.programs.items
  pub told : (i : ℕ) (l : GrowingLine) → slice_get ls i ≡ Some l → IsTold j (end_in w) i l

-- The job's window of this size has the clocks from one on: as many as its size, or up to the last.
pub record IsFilledFrom (j : Job) (at size : ℕ) (w : Window) : Type 0 where
  pub window : IsWindowFor j w
  pub same : size_in w ≡ size
  pub first : first_in w ≡ at
  pub end : end_in w ≡ min (clocks_of j) (at + size)

-- the second window has the clocks after those of the first
abbrev pub IsNext : Job → Window → Window → Type 0
IsNext j v w = IsFilledFrom j (end_in v) (size_in v) w
