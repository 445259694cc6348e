use Rattle.std.proofs.Common.{◌≡◌, ◌+◌, ◌∙◌, ap, subst, All, arith, rules}
use Rattle.std.specs.Vec.Iter.{into_iter_items}
use Rattle.std.proofs.lemmas.List.Elements.{All-head, All-tail, All-append, All-same}
use Rattle.workers_bench.specs.declared.passes.Hand.{Hand}
use Rattle.workers_bench.specs.Hands.{total}
use Rattle.workers_bench.specs.Passes.{pass_parts, taken_of}
use Rattle.workers_bench.specs.Benches.{IsPassOfBench}
use Rattle.workers.specs.declared.round.Member.{Member}
use Rattle.workers.specs.Works.{IsPublished, published_count}
use Rattle.workers.specs.Adding.{is_of_kind, amount_of, added_by, added_by_worked, kind_counted}
use Rattle.workers.proofs.Added.{counts-append}
use Rattle.workers.specs.Runs.{EndsRound, published_numbers, IsMember}
use Rattle.workers_bench.proofs.Keeps.{all_pushed, total_push}
use Rattle.workers.proofs.Orders.{published_more, back_none}
use Rattle.workers.proofs.round.gathered.Goals as goal

pub loop-worked-preserved : goal.loop-worked-preserved
loop-worked-preserved g c =
    let was = c.loop-worked.invariant in let steps = c.in-Some.ensures.steps in
    let E = EndsRound c.args.bench.now c.args.board.now c.args.window.now in
    let P = IsPublished c.args.bench.now.job.now c.args.window.now c.args.board.now in
    let all = subst (All E) steps.0 was.3 in
    let ends = All-head E c.in-Some.worked (into_iter_items c.next.new.self) all in
    let pushed = c.push_reserved.ensures.items in
    let joined = c.in_ok-append.ensures.items in (
      search rules,
      search rules,
      (search rules, search rules),
      All-tail E c.in-Some.worked (into_iter_items c.next.new.self) all,
      all_pushed (IsPassOfBench c.args.bench.now) _ _ _ pushed was.4 ends.of,
      omega (
        arith,
        total_push pass_parts _ _ _ pushed,
        ap
            (λ (v : Hand). v.parts) ends.taken,
        was.5,
        c.push_reserved.ensures.len,
      ),
      (λ h.
          let w = c.in-Some.worked in
          let more : total (taken_of h) c.push_reserved.new.self.items
          ≡ total (taken_of h) c.loop-worked.passes.items + taken_of h w.pass =
          total_push (taken_of h) _ _ _ pushed in
          let grown : total h (published_numbers c.append.new.self.items)
          ≡ total h (published_numbers c.loop-worked.published.items) + total h
          (published_numbers w.published.items) = published_more h _ _ _ joined in
          let back : taken_of h w.pass ≡ total h (published_numbers w.published.items) =
          ap (λ (v : Hand). total h v.taken) ends.taken ∙ back_none h w.published.items w.kept c.in-None-kept.is in
          omega (arith, was.6 h)),
      All-same P _ _ joined (All-append P _ _ was.7 ends.at_end),
      all_pushed IsMember _ _ _ c.push_reserved-in-loop-worked.ensures.items was.8 ends.share,
      (λ k.
          let w = c.in-Some.worked in
          let more : added_by k c.push_reserved-in-loop-worked.new.self.items
          ≡ added_by k c.loop-worked.members.items + amount_of k w.share =
          total_push (λ (m : Member g.row.L.Denot). amount_of k m.share) _ _ _
          c.push_reserved-in-loop-worked.ensures.items in
          let left : added_by_worked k (into_iter_items c.loop-worked.worked-iterator)
          ≡ amount_of k w.share + added_by_worked k (into_iter_items c.next.new.self) =
          ap (added_by_worked k) steps.0 in
          omega (arith, was.9 k)),
      (λ k.
          let w = c.in-Some.worked in
          let more : published_count (is_of_kind k) c.append.new.self.items
          ≡ published_count (is_of_kind k) c.loop-worked.published.items + published_count
          (is_of_kind k) w.published.items =
          counts-append (is_of_kind k) c.loop-worked.published.items w.published.items
          c.append.new.self.items joined in
          let left : kind_counted k (into_iter_items c.loop-worked.worked-iterator)
          ≡ published_count (is_of_kind k) w.published.items + kind_counted k (into_iter_items c.next.new.self) =
          ap (kind_counted k) steps.0 in
          omega (arith, was.10 k)),
    )
