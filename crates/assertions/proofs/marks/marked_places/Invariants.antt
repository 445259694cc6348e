use Rattle.std.proofs.Common.{◌≡◌, ◌++◌, drop}
use Rattle.assertions.specs.Marks.{places_from}
use Rattle.assertions.proofs.marks.marked_places.Given as goal

abbrev pub invariant-loop-place : goal.invariant-loop-place
invariant-loop-place l =
    l.places.items ++ places_from l.place (drop l.place l.marks) ≡ places_from 0 l.marks
