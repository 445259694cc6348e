use Rattle.std.proofs.Common.{◌≡◌, map, length}
use Rattle.types.specs.Views.{draft_of}
use Rattle.types.proofs.TableLaws.{State}
use Rattle.types.proofs.table.sweep.Given as goal

abbrev pub invariant-places : goal.invariant-places
invariant-places l =
    record {
      state : State (map draft_of l.bodies) l.initial.table.items l.fn.places.items l.table.items l.left.items
          l.still.items;
      long : length l.table.items ≡ length l.bodies;
    }

abbrev pub decreases-places : goal.decreases-places
decreases-places l = length l.left.items
