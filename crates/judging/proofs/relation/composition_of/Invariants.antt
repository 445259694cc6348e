use Rattle.judging.specs.Tables.{reached_from}
use Rattle.judging.proofs.RowLaws.{IsRowsOf}
use Rattle.judging.proofs.relation.composition_of.Given as goal

abbrev pub invariant-loop-place : goal.invariant-loop-place
invariant-loop-place l = IsRowsOf (reached_from l.front l.rest l.gap) l.starts l.place l.all
