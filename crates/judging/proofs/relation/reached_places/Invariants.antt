use Rattle.std.proofs.Common.{◌≡◌, ℕ, ◌<◌, length}
use Rattle.std.specs.Prelude.{IsTrue}
use Rattle.judging.specs.Tables.{marks, has_link}
use Rattle.judging.proofs.relation.reached_places.Given as goal

abbrev pub invariant-loop-place : goal.invariant-loop-place
invariant-loop-place l = record {
  long : length l.all.items ≡ length l.starts;
  each : (i j : ℕ) → i < l.place → IsTrue (marks l.starts i) → j < length l.starts → IsTrue (has_link l.table i j)
      → IsTrue (marks l.all.items j);
}
