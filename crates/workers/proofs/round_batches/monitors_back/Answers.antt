use Rattle.std.proofs.Common.{◌++◌, ◌∷◌, [], ap, ◌∙◌, sym, map, List, append_assoc, rules}
use Rattle.std.specs.Vec.Iter.{into_iter_items}
use Rattle.workers_bench.specs.declared.numbered.Numbered.{Numbered}
use Rattle.workers.specs.declared.worker.Published.{Published}
use Rattle.workers.specs.Taking.{numbered_of}
use Rattle.workers.proofs.round_batches.monitors_back.Goals as goal

pub loop-one-preserved : goal.loop-one-preserved
loop-one-preserved c =
    let was = c.loop-one.invariant in
    let p : Published = c.in-Some.one in
    let rest = map numbered_of (into_iter_items c.next.new.self) in (
      ap (λ (l : List Numbered). l ++ rest) c.push_reserved.ensures.items
          ∙ (append_assoc c.loop-one.all.items (p.monitor ∷ []) rest
          ∙ (ap (λ (l : List Published). c.loop-one.all.items ++ map numbered_of l) (sym c.in-Some.ensures.steps.0)
          ∙ was.0)),
      search rules,
      search rules,
    )
