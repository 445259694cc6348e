use Rattle.std.proofs.Common.{◌≡◌, ℕ, Some, length, map, take}
use Rattle.std.specs.Prelude.{slice_get}
use Rattle.workers_core.specs.States.{published_by}
use Rattle.workers_core.specs.Parts.{batch_state}
use Rattle.workers_core.specs.declared.growing_line.GrowingLine.{GrowingLine}
use Rattle.workers_core.specs.Taken.{TookIn}
use Rattle.workers_core.proofs.published_lines.lines_published.Given as goal

-- the first batches are taken in
abbrev pub invariant-loop-batch : goal.invariant-loop-batch
invariant-loop-batch l = record {
  long : length l.lines.items ≡ l.count;
  took : (i : ℕ) (x : GrowingLine) → slice_get l.lines.items i ≡ Some x
      → TookIn x (published_by (map batch_state (take l.batch-index l.board)) i);
}
