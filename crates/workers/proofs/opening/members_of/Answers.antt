use Rattle.std.proofs.Common.{subst, All, rules, arith}
use Rattle.std.specs.Vec.Iter.{into_iter_items}
use Rattle.std.proofs.lemmas.List.Elements.{All-head, All-tail}
use Rattle.verdicts.specs.Shares.{IsFresh}
use Rattle.workers_bench.proofs.Keeps.{all_pushed, total_push}
use Rattle.workers.specs.declared.round.Member.{Member}
use Rattle.workers.specs.Adding.{amount_of}
use Rattle.workers.specs.Runs.{IsMember}
use Rattle.workers.proofs.Shares.{fresh-amount}
use Rattle.workers.proofs.opening.members_of.Goals as goal

pub loop-share-preserved : goal.loop-share-preserved
loop-share-preserved g c =
    let was = c.loop-share.invariant in
    let all = subst (All IsFresh) c.in-Some.ensures.steps.0 was.2 in
    let here = All-head IsFresh c.in-Some.share (into_iter_items c.next.new.self) all in (
      search rules,
      search rules,
      All-tail IsFresh c.in-Some.share (into_iter_items c.next.new.self) all,
      all_pushed IsMember _ _ _ c.push_reserved.ensures.items was.3 here.0,
      (λ k.
          let one = fresh-amount k c.in-Some.share here in
          let more = total_push (λ (m : Member g.row.L.Denot). amount_of k m.share)
          _ _ _ c.push_reserved.ensures.items in
          omega (arith, one, more, was.4 k)),
    )
