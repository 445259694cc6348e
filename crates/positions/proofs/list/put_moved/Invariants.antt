use Rattle.std.proofs.Common.{◌≡◌, ◌++◌, take}
use Rattle.positions.specs.Tables.{shift}
use Rattle.positions.proofs.list.put_moved.Given as goal

abbrev pub invariant-loop-position : goal.invariant-loop-position
invariant-loop-position l = l.list.items ≡ l.fn.list.items ++ shift l.by (take l.position-index l.more)
