use Rattle.std.proofs.Common.{◌≡◌, drop}
use Rattle.types_names.specs.Faults.{earlier, least}
use Rattle.types.specs.Sides.{places_where, is_wide}
use Rattle.types.proofs.side.first_wide.Given as goal

abbrev pub invariant-loop-side : goal.invariant-loop-side
invariant-loop-side l =
    earlier l.fault (least (places_where is_wide (drop l.side-index l.sides))) ≡ least (places_where is_wide l.sides)
