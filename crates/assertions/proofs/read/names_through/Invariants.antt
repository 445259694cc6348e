use Rattle.assertions.proofs.ReadLaws.{Expands, left_to_do}
use Rattle.assertions.proofs.read.names_through.Given as goal

abbrev pub invariant-counters : goal.invariant-counters
invariant-counters l = Expands l.fn.first.items l.counters l.names.items l.done.items l.from

abbrev pub decreases-counters : goal.decreases-counters
decreases-counters l = left_to_do l.done.items
