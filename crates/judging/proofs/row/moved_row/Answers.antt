use Rattle.std.proofs.Common.{arith}
use Rattle.judging.proofs.RowLaws.{moved_none, moved_more, moved_all}
use Rattle.judging.proofs.row.moved_row.Goals as goal

pub loop-gap-init : goal.loop-gap-init
loop-gap-init c = record { row = moved_none _ _ _ _ c.in_ok-row.ensures; upto = omega arith }

pub loop-gap-preserved : goal.loop-gap-preserved
loop-gap-preserved c = record {
  row = moved_more _ _ _ _ _ _ c.loop-gap.invariant.row (omega arith) c.merge_behind.ensures.long
      c.merge_behind.ensures.each;
  upto = omega arith;
}

pub returns : goal.returns
returns c = moved_all _ _ _ _ _ _ c.loop-gap.invariant.row (omega arith) (omega arith) (omega arith)
