use Rattle.std.proofs.Common.{◌≡◌, ◌+◌, ◌^◌, true, ap, ◌∙◌, sym, subst, All, arith, rules}
use Rattle.std.specs.Vec.Iter.{into_iter_items}
use Rattle.std.proofs.lemmas.List.Elements.{All-head, All-tail}
use Rattle.verdicts.specs.Shares.{EachAtMost}
use Rattle.workers_bench.specs.Passes.{TakesNone}
use Rattle.workers_bench.specs.Benches.{IsPassOfBench, round_of}
use Rattle.workers.specs.Runs.{IsMember, Begins}
use Rattle.workers_bench.proofs.Keeps.{all_pushed, all_popped, total_push}
use Rattle.workers.specs.declared.crew.Task.{Task}
use Rattle.workers.specs.Adding.{amount_of, added_by, added_by_tasks}
use Rattle.workers.proofs.Added.{same-amount}
use Rattle.workers.proofs.round.tasks_of.Goals as goal

pub loop-member-preserved : goal.loop-member-preserved
loop-member-preserved g c =
    let was = c.loop-member.invariant in let steps = c.in-Some.ensures.steps in
    let popped = all_popped (λ pass. IsPassOfBench c.args.bench.now pass
    × TakesNone (round_of c.args.bench.now) pass) _ _ c.in-Some-pop.pass c.in-Some-pop.ensures.items was.3 in
    let members = subst (All IsMember) steps.0 was.4 in
    let member = All-head IsMember c.in-Some.member (into_iter_items c.next.new.self) members in (
      search rules,
      search rules,
      search rules,
      popped.0,
      All-tail IsMember c.in-Some.member (into_iter_items c.next.new.self) members,
      all_pushed (Begins c.args.bench.now) _ _ _ c.push_reserved.ensures.items was.5 (record {
        of = popped.1.0;
        none = popped.1.1;
        share = (
          c.audits_within.ensures.parts ∙ member,
          let yes : c.audits_within.result ≡ true =
              cc c.if-not-audits_within.false in
              subst (λ l. EachAtMost l (2 ^ 55)) (sym c.audits_within.ensures.same)
              (c.audits_within.ensures.within yes),
        );
        claims = omega (arith, c.if-claims-gt-MOST_CLAIMS.false);
      }),
      (λ k.
          let one : amount_of k c.audits_within.new.share ≡ amount_of k c.in-Some.member.share =
          same-amount k _ _ c.audits_within.ensures.same in
          let more : added_by_tasks k c.push_reserved.new.self.items
          ≡ added_by_tasks k c.loop-member.tasks.items + amount_of k c.audits_within.new.share =
          total_push (λ (t : Task g.row.L.Denot). amount_of k t.share) _ _ _ c.push_reserved.ensures.items in
          let left : added_by k (into_iter_items c.loop-member.member-iterator)
          ≡ amount_of k c.in-Some.member.share + added_by k (into_iter_items c.next.new.self) =
          ap (added_by k) steps.0 in
          omega (arith, was.6 k)),
    )
