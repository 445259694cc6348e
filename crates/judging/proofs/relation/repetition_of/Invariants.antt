use Rattle.judging.proofs.FormLaws.{IsRepeated}
use Rattle.judging.proofs.relation.repetition_of.Given as goal

abbrev pub invariant-loop-count : goal.invariant-loop-count
invariant-loop-count l = IsRepeated l.bodies l.starts l.least l.count l.last l.all
