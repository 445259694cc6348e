use Rattle.std.proofs.Common.{◌≡◌, ◌≤◌, ◌<◌, ℕ, Some, length}
use Rattle.std.specs.Prelude.{slice_get}
use Rattle.verdicts.specs.Receipts.{shown_by}
use Rattle.workers_core.specs.declared.growing_line.GrowingLine.{GrowingLine}
use Rattle.workers.specs.declared.worker.Published.{Published}
use Rattle.workers.specs.Taking.{Takes}
use Rattle.workers.proofs.round_batches.take_round.Given as goal

-- the first lines took in their batches, and the others stand as they stood
abbrev pub invariant-loop-number : goal.invariant-loop-number
invariant-loop-number l = record {
  long : length l.lines.items ≡ length l.fn.lines.items;
  first : (i : ℕ) (x y : GrowingLine) (p : Published) → i < l.number → slice_get l.fn.lines.items i ≡ Some x
      → slice_get l.published i ≡ Some p → slice_get l.lines.items i ≡ Some y
      → Takes x (shown_by p.receipt).decided.items y;
  rest : (i : ℕ) → l.number ≤ i → slice_get l.lines.items i ≡ slice_get l.fn.lines.items i;
}
