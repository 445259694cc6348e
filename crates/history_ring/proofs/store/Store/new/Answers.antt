use Rattle.std.proofs.Common.{replicate, sym, ◌∙◌}
use Rattle.history_ring.proofs.Fills.{AllHeld-map, values_of-is, zeros-put}
use Rattle.history_ring.proofs.store.Store.new.Goals as goal

pub invariant_of-result : goal.invariant_of-result
invariant_of-result c =
    let made = c.in-Some.ensures in let same = c.clear.ensures.same in (
      AllHeld-map _ (replicate c.args.count 0)
          (zeros-put c.args.count _ _ made.empty c.clear.ensures.zeros),
      made.allocator,
      made.start ∙ sym same.0,
      made.count.1 ∙ sym made.count.0 ∙ sym same.1,
    )

pub returns : goal.returns
returns c =
    values_of-is _ (replicate c.args.count 0)
    (zeros-put c.args.count _ _ c.in-Some.ensures.empty c.clear.ensures.zeros)
