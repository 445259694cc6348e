use Rattle.std.proofs.Common.{◌≡◌, ◌≤◌, ◌-◌, length}
use Rattle.cycle_window.specs.Changes.{changes_to, IsTable}
use Rattle.cycle_window.proofs.last.advance.Given as goal

abbrev pub invariant-loop-at : goal.invariant-loop-at
invariant-loop-at l = record {
  inside : l.at ≤ length l.steps;
  long : length l.last ≡ length l.fn.last;
  low : l.initial.at ≤ l.at;
  short : l.initial.at ≤ l.to → l.at ≤ l.to;
  table : IsTable l.fn.last (changes_to l.steps l.initial.at)
      → IsTable l.last (changes_to l.steps l.at);
}

abbrev pub decreases-loop-at : goal.decreases-loop-at
decreases-loop-at l = length l.steps - l.at
