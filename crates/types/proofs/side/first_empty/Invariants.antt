use Rattle.std.proofs.Common.{◌≡◌, drop}
use Rattle.types_names.specs.Faults.{earlier, least}
use Rattle.types.specs.Sides.{places_where, is_side_empty}
use Rattle.types.proofs.side.first_empty.Given as goal

abbrev pub invariant-loop-side : goal.invariant-loop-side
invariant-loop-side l =
    earlier l.fault (least (places_where is_side_empty (drop l.side-index l.sides)))
    ≡ least (places_where is_side_empty l.sides)
