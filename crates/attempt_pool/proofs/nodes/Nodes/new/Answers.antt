use Rattle.std.proofs.Common.{refl, sym, ◌∙◌, arith}
use Rattle.attempt_pool.proofs.FilledLaws.{filling_first, filling_more, filling_all, filling_fresh}
use Rattle.attempt_pool.proofs.nodes.Nodes.new.Goals as goal

pub loop-place-init : goal.loop-place-init
loop-place-init g c = record {
  start = refl;
  count = refl;
  nodes = filling_first _ _ _ (omega arith) c.in-Some.ensures.empty c.write.ensures.held;
}

pub loop-place-preserved : goal.loop-place-preserved
loop-place-preserved g c =
    let h = c.loop-place.invariant in let put = c.write-in-loop-place.ensures in
    record {
      start = put.block.0 ∙ h.start;
      count = put.block.1 ∙ h.count;
      nodes = filling_more _ _ _ _ (omega arith) c.loop-place-test.true h.nodes put.held;
    }

pub invariant_of-result : goal.invariant_of-result
invariant_of-result g c =
    let made = c.in-Some.ensures in let first = c.write.ensures.block in
    let h = c.loop-place.invariant in (
      filling_all _ _ _ c.loop-place-test.false h.nodes,
      made.allocator,
      made.start ∙ sym (h.start ∙ first.0),
      made.count.1 ∙ sym (h.count ∙ first.1 ∙ made.count.0),
    )

pub returns : goal.returns
returns g c = filling_fresh _ _ _ c.loop-place-test.false c.loop-place.invariant.nodes
