use Rattle.std.proofs.Common.{◌≡◌, ◌≤◌}
use Rattle.positions.specs.Living.{kept_below}
use Rattle.positions.specs.Rows.{is_marked_at}
use Rattle.positions.proofs.living.rank_of.Given as goal

abbrev pub invariant-loop-place : goal.invariant-loop-place
invariant-loop-place l = record {
  rank : l.count ≡ kept_below (is_marked_at l.marks) l.place;
  few : l.count ≤ l.place;
}
