use Rattle.std.proofs.Common.{◌≤◌, ◌<◌, ℕ, get_or}
use Rattle.cycle_window.specs.Samples.{stay_at}
use Rattle.cycle_window.proofs.picks.least_stay.Given as goal

-- the greatest number that is no more than each note so far
abbrev pub invariant-loop-pick : goal.invariant-loop-pick
invariant-loop-pick l = record {
  most : l.least ≤ l.most;
  least : (i : ℕ) → i < l.pick-index → l.least ≤ stay_at l.all l.tick (get_or l.picks i 0);
  greatest : (n : ℕ) → n ≤ l.most
      → ((i : ℕ) → i < l.pick-index → n ≤ stay_at l.all l.tick (get_or l.picks i 0)) → n ≤ l.least;
}
