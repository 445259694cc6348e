use Rattle.std.proofs.Common.{◌≡◌, ℕ, [], Some, length}
use Rattle.std.specs.Prelude.{slice_get}
use Rattle.workers_core.specs.declared.growing_line.GrowingLine.{GrowingLine}
use Rattle.workers_core.specs.Taken.{TookIn}
use Rattle.workers_core.proofs.published_lines.blank_lines.Given as goal

-- the lines so far are blank
abbrev pub invariant-loop-monitor : goal.invariant-loop-monitor
invariant-loop-monitor l = record {
  long : length l.lines.items ≡ l._monitor;
  none : (i : ℕ) (x : GrowingLine) → slice_get l.lines.items i ≡ Some x → TookIn x [];
}
