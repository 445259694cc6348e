use Rattle.positions.proofs.SiftLaws.{AreMarked}
use Rattle.positions.proofs.reach.kept.Given as goal

abbrev pub invariant-loop-place : goal.invariant-loop-place
invariant-loop-place l = AreMarked l.table l.place l.marks.items
