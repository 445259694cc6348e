use Rattle.std.proofs.Common.{◌≡◌, map, length}
use Rattle.types.specs.Views.{draft_of}
use Rattle.types.proofs.SweepLaws.{State}
use Rattle.types.proofs.cyclic.sweep.Given as goal

abbrev pub invariant-places : goal.invariant-places
invariant-places l =
    record {
      state : State (map draft_of l.bodies) l.goal l.initial.marks.items l.fn.places.items l.marks.items l.left.items
          l.still.items;
      long : length l.marks.items ≡ length l.bodies;
    }

abbrev pub decreases-places : goal.decreases-places
decreases-places l = length l.left.items
