use Rattle.judging.proofs.FormLaws.{repeated_first, repeated_skip, repeated_more}
use Rattle.judging.proofs.relation.repetition_of.Goals as goal

pub loop-count-init : goal.loop-count-init
loop-count-init c = repeated_first _ _ _ _ _ c.in_ok-last.ensures c.in_ok-all.ensures

pub loop-count-preserved-then-count-least : goal.loop-count-preserved-then-count-least
loop-count-preserved-then-count-least c =
    repeated_skip _ _ _ _ _ _ _ c.if-count-least.true c.loop-count.invariant c.in_ok-last-2.ensures

pub loop-count-preserved : goal.loop-count-preserved
loop-count-preserved c =
    repeated_more _ _ _ _ _ _ _ _ c.if-count-least.false c.loop-count.invariant c.in_ok-last-2.ensures
    c.in_ok-all-2.ensures
