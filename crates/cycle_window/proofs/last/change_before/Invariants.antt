use Rattle.std.proofs.Common.{◌≡◌, ◌≤◌}
use Rattle.cycle_window.specs.Changes.{changes_to, last_of}
use Rattle.cycle_window.proofs.last.change_before.Given as goal

abbrev pub invariant-loop-at : goal.invariant-loop-at
invariant-loop-at l = record {
  inside : l.at ≤ l.step;
  same : last_of l.code (changes_to l.steps l.step) ≡ last_of l.code (changes_to l.steps l.at);
}

-- proposed from the loop's first test
abbrev pub decreases-loop-at : goal.decreases-loop-at
decreases-loop-at l = l.at
