use Rattle.std.proofs.Common.{◌≡◌, drop}
use Rattle.assertions.specs.Marks.{mark_all}
use Rattle.assertions.proofs.marks.marks_of.Given as goal

abbrev pub invariant-loop-name : goal.invariant-loop-name
invariant-loop-name l =
    mark_all l.origin l.marks.items (drop l.name-index l.names) ≡ mark_all l.origin l.initial.marks.items l.names
