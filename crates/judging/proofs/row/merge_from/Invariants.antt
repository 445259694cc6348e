use Rattle.std.proofs.Common.{◌≡◌, ℕ, ◌<◌, ◌≤◌, ◌||◌, length, List, Bool}
use Rattle.judging.specs.Tables.{marks}
use Rattle.judging.proofs.row.merge_from.Given as goal

pub record IsMerged (old new more : List Bool) (from place : ℕ) : Type 0 where
  pub long : length new ≡ length old
  pub before : (k : ℕ) → k < from → marks new k ≡ marks old k
  pub merged : (k : ℕ) → from ≤ k → k < place → marks new k ≡ (marks old k || marks more k)
  pub after : (k : ℕ) → place ≤ k → marks new k ≡ marks old k

abbrev pub invariant-loop-place : goal.invariant-loop-place
invariant-loop-place l = IsMerged l.initial.row.items l.row.items l.more l.from l.place
