use Rattle.std.proofs.Common.{◌≡◌, ◌+◌, ap, ◌∙◌, subst, All, rules, arith}
use Rattle.std.specs.Vec.Iter.{into_iter_items}
use Rattle.std.specs.List.{sum_by}
use Rattle.std.proofs.lemmas.List.Elements.{All-head, All-tail}
use Rattle.std.proofs.lemmas.List.Sums.{sum_by_push}
use Rattle.verdicts.specs.declared.tally.Share.{Share}
use Rattle.verdicts.specs.Shares.{parts}
use Rattle.workers.specs.declared.round.Member.{Member}
use Rattle.workers.specs.Adding.{added_by, amount_of}
use Rattle.workers.specs.Runs.{IsMember}
use Rattle.workers.specs.Tallied.{shared_by}
use Rattle.workers.proofs.totals.shares_of.Goals as goal

pub loop-member-preserved : goal.loop-member-preserved
loop-member-preserved g c =
    let was = c.loop-member.invariant in
    let m : Member g.row.L.Denot = c.in-Some.member in
    let rest = into_iter_items c.next.new.self in
    let steps = c.in-Some.ensures.steps.0 in
    let all = subst (All IsMember) steps was.2 in
    let here = All-head IsMember m rest all in
    let pushed = c.push_reserved.ensures.items in
    let more : sum_by parts c.push_reserved.new.self.items ≡ sum_by parts c.loop-member.shares.items + parts m.share =
    ap (sum_by parts) pushed ∙ sum_by_push parts c.loop-member.shares.items m.share in (
      search rules,
      search rules,
      All-tail IsMember m rest all,
      omega (arith, more, here, was.3, c.push_reserved.ensures.len),
      (λ k.
          let f = λ (s : Share g.row.L.Denot). amount_of k s in
          let new = ap (shared_by k) pushed ∙ sum_by_push f c.loop-member.shares.items m.share in
          let old = ap (added_by k) steps in
          omega (arith, new, old, was.4 k)),
    )
