use Rattle.std.proofs.Common.{◌≡◌, ℕ, ◌+◌, ◌<◌, ◌≤◌, ◌||◌, length, List, Bool}
use Rattle.judging.specs.Tables.{marks}
use Rattle.judging.proofs.row.merge_behind.Given as goal

pub record IsMergedBehind (old new front : List Bool) (gap place : ℕ) : Type 0 where
  pub long : length new ≡ length old
  pub before : (k : ℕ) → k < gap → marks new k ≡ marks old k
  pub merged : (k : ℕ) → k < place → marks new (gap + k) ≡ (marks old (gap + k) || marks front k)
  pub after : (k : ℕ) → gap + place ≤ k → marks new k ≡ marks old k

abbrev pub invariant-loop-place : goal.invariant-loop-place
invariant-loop-place l = IsMergedBehind l.initial.row.items l.row.items l.front l.gap l.place
