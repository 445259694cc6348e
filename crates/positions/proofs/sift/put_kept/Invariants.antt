use Rattle.std.proofs.Common.{◌≡◌, ◌++◌, take}
use Rattle.positions.specs.Living.{sift}
use Rattle.positions.specs.Rows.{is_marked_at}
use Rattle.positions.proofs.sift.put_kept.Given as goal

abbrev pub invariant-loop-position : goal.invariant-loop-position
invariant-loop-position l =
    l.list.items ≡ l.fn.list.items ++ sift (is_marked_at l.marks) (take l.position-index l.positions)
