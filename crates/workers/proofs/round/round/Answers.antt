use Rattle.std.proofs.Common.{◌≡◌, ◌+◌, ◌∙◌, ap, vec_len, arith, rules}
use Rattle.std.proofs.lemmas.List.Elements.{All-set}
use Rattle.std.proofs.lemmas.List.Sorted.{All-permutation}
use Rattle.crossbeam_queue.specs.Passes.{view}
use Rattle.workers_bench.specs.declared.passes.Hand.{Hand}
use Rattle.workers_bench.specs.Hands.{total, numbers}
use Rattle.workers_bench.specs.Passes.{taken_of}
use Rattle.workers.specs.Works.{IsPublished}
use Rattle.workers.specs.Runs.{published_numbers, upto, IsMember}
use Rattle.workers.specs.declared.round.Member.{Member}
use Rattle.workers.specs.Works.{published_count}
use Rattle.workers.specs.Adding.{is_of_kind, amount_of, added_by_tasks, added_by_worked, kind_counted}
use Rattle.workers.proofs.Added.{works-add, counts-moved, total-first}
use Rattle.workers.proofs.Orders.{ends_all, ordered, moved}
use Rattle.workers.proofs.round.round.Goals as goal

pub gathered-requires : goal.gathered-requires
gathered-requires g c =
    ends_all c.in_ok-bench.bench c.args.board.now c.args.window.now c.in_ok-tasks.tasks.items c.in_ok-all.all.items
    c.in_ok-all.ensures.count c.in_ok-tasks.ensures.ready c.in_ok-all.ensures.each

pub returns-clause-order : goal.returns-clause-order
returns-clause-order g c =
    ordered (vec_len c.args.monitors) _ c.put_in_order.ensures.sorted
    (λ h.
    let rest = total h (numbers c.finish-rest.result.items) in
    let done = total h (published_numbers c.in_ok-passes.field-0.published.items) in
    let all : total h (view c.put_all-pass.result).put ≡ total h (numbers c.args.monitors.items) =
    ap (λ (v : Hand). total h v.put) c.put_all-pass.ensures.put in
    let begun : taken_of h c.in_ok-bench.pass ≡ 0 =
    ap (λ (v : Hand). total h v.taken) c.in_ok-bench.ensures.putting.1 in
    let none : taken_of h c.put_all-pass.result ≡ taken_of h c.in_ok-bench.pass =
    ap (λ (v : Hand). total h v.taken) c.put_all-pass.ensures.put in
    let left : total h (view c.put_all-pass.result).put
    ≡ (taken_of h c.put_all-pass.result + total (taken_of h) c.in_ok-passes.field-0.passes.items) + rest =
    c.finish-rest.ensures.rest h in
    let taken : total (taken_of h) c.in_ok-passes.field-0.passes.items
    ≡ total h (published_numbers c.in_ok-passes.field-0.published.items) = c.in_ok-passes.ensures.taken h in
    let joined : total h (published_numbers c.run_rest.new.published.items) ≡ done + rest =
    c.in_ok-run_rest.ensures.numbers h in
    let order : total h (numbers c.args.monitors.items) ≡ total h (upto 0 (vec_len c.args.monitors)) =
    ap (total h) c.requires.order in
    let same : total h (published_numbers c.put_in_order.new.published.items)
    ≡ total h (published_numbers c.run_rest.new.published.items) =
    moved h _ _ c.put_in_order.ensures.moved in
    omega arith)

pub returns-clause-published : goal.returns-clause-published
returns-clause-published g c =
    All-permutation (IsPublished c.args.job.now c.args.window.now c.args.board.now) _ _ c.put_in_order.ensures.moved
    c.in_ok-run_rest.ensures.published

pub returns-clause-members : goal.returns-clause-members
returns-clause-members g c =
    let was = c.in_ok-passes.ensures.members in (
      search rules,
      All-set IsMember c.in_ok-passes.field-0.members.items 0 _ c.run_rest.ensures.part was.1,
    )

pub returns-clause-added : goal.returns-clause-added
returns-clause-added g c = λ k.
    let one = λ (m : Member g.row.L.Denot). amount_of k m.share in
    let is = is_of_kind k in
    let begun = c.in_ok-tasks.ensures.added k in
    let worked : added_by_worked k c.in_ok-all.all.items
    ≡ added_by_tasks k c.in_ok-tasks.tasks.items + kind_counted k c.in_ok-all.all.items =
    works-add c.in_ok-bench.bench c.args.board.now c.args.window.now k c.in_ok-tasks.tasks.items
    c.in_ok-all.all.items c.in_ok-all.ensures.count c.in_ok-all.ensures.each in
    let back = c.in_ok-passes.ensures.added k in
    let counted = c.in_ok-passes.ensures.counted k in
    let first : Member g.row.L.Denot =
    record { share = c.run_rest.new.share; claims = c.in-Some.first.now.claims } in
    let there = c.in-Some.ensures.item.3 in
    let changed = total-first one c.in_ok-passes.field-0.members.items c.in-Some.first.now first there.0
    (there.1 first) in
    let rest = c.in_ok-run_rest.ensures.added k in
    let same : published_count is c.put_in_order.new.published.items
    ≡ published_count is c.run_rest.new.published.items = counts-moved is _ _ c.put_in_order.ensures.moved in
    omega arith

pub returns-clause-threads : goal.returns-clause-threads
returns-clause-threads g c =
    record {
      putting = c.put_all-pass.result;
      passes = c.in_ok-passes.field-0.passes.items;
      rest = c.finish-rest.result.items;
      each = omega (
        arith,
        c.in_ok-passes.ensures.each,
        c.in_ok-passes.field-0.passes.ok.0,
        c.in_ok-all.all.ok.0,
        c.in_ok-all.ensures.count,
        c.in_ok-tasks.tasks.ok.0,
        c.in_ok-tasks.ensures.count,
      );
      put = ap (λ (v : Hand). v.put) c.put_all-pass.ensures.put ∙ c.requires.order
          ∙ ap (upto 0) c.requires.count;
      none = ap (λ (v : Hand). v.taken) c.put_all-pass.ensures.put
          ∙ ap (λ (v : Hand). v.taken) c.in_ok-bench.ensures.putting.1;
      taken = c.finish-rest.ensures.rest;
      order = returns-clause-order g c ∙ ap (upto 0) c.requires.count;
      published = returns-clause-published g c;
    }
