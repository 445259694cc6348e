use Rattle.std.proofs.Common.{◌≡◌, List, take, length, ◌++◌}
use Rattle.vcd_reader.specs.declared.step.Change.{Change}
use Rattle.cycle_window.specs.Changes.{IsTable}
use Rattle.cycle_window.proofs.last.enter.Given as goal

abbrev pub invariant-loop-change : goal.invariant-loop-change
invariant-loop-change l = record {
  long : length l.last ≡ length l.fn.last;
  table : (earlier : List Change) → IsTable l.fn.last earlier
      → IsTable l.last (earlier ++ take l.change-index l.changes);
}
