use Rattle.std.proofs.Common.{◌≡◌, ◌≤◌, ◌<◌, ℕ, length, get_or}
use Rattle.cycle_window.specs.Stays.{StaysFor}
use Rattle.cycle_window.specs.Values.{numbers}
use Rattle.cycle_window.proofs.stays.note_stays.Given as goal

-- the values from the place on have their notes
abbrev pub invariant-loop-place : goal.invariant-loop-place
invariant-loop-place l = record {
  inside : l.place ≤ length (numbers l.values);
  long : length l.stays ≡ length l.fn.stays;
  noted : (i : ℕ) → l.place ≤ i → i < length (numbers l.values) → StaysFor (numbers l.values) i (get_or l.stays i 0);
}

abbrev pub decreases-loop-place : goal.decreases-loop-place
decreases-loop-place l = l.place
