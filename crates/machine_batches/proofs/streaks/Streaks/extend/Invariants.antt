use Rattle.std.proofs.Common.{◌≡◌, ◌+◌, ◌≤◌, ◌++◌, take}
use Rattle.machine_batches.proofs.streaks.Streaks.extend.Given as goal

-- the attempts so far are added
abbrev pub invariant-loop-one : goal.invariant-loop-one
invariant-loop-one l = record {
  items : l.self.items ≡ l.fn.self.items ++ take l.one-index l.attempts;
  room : l.fn.self.room ≤ l.self.room + l.one-index;
}
