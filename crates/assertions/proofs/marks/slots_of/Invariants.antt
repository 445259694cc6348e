use Rattle.std.proofs.Common.{◌≡◌, ◌≤◌, ◌+◌, ◌++◌, drop, count_by}
use Rattle.assertions.specs.Marks.{is_marked, slots_from}
use Rattle.assertions.proofs.marks.slots_of.Given as goal

abbrev pub invariant-loop-marked : goal.invariant-loop-marked
invariant-loop-marked l = record {
  made : l.slots.items ++ slots_from l.next (drop l.marked-index l.marks) ≡ slots_from l.first l.marks;
  few : l.next + count_by is_marked (drop l.marked-index l.marks) ≤ 65535;
}
