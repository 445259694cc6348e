use Rattle.std.proofs.Common.{◌≡◌, ◌||◌, take}
use Rattle.std.specs.List.{list_any}
use Rattle.positions.specs.Rows.{is_marked_at}
use Rattle.positions.proofs.living.is_leading.Given as goal

abbrev pub invariant-loop-position : goal.invariant-loop-position
invariant-loop-position l =
    l.on ≡ (l.edge.accepts || list_any (is_marked_at l.marks) (take l.position-index l.edge.enters.items))
