use Rattle.std.proofs.Common.{◌&&◌, ◌∙◌, ap}
use Rattle.judging.specs.Tables.{marks, held_at}
use Rattle.judging.proofs.RowLaws.{row_more, holds_on}
use Rattle.judging.proofs.row.kept_row.Goals as goal

pub loop-place-preserved : goal.loop-place-preserved
loop-place-preserved c =
    let h = held_at c.args.seen.now.values c.args.boolean in
    let start = c.args.start in
    let j = c.loop-place.place in
    let holds = c.loop-place.holds in
    record {
      row = row_more _ _ _ _ _ c.loop-place.invariant.row c.in_ok-push.ensures.items
          (ap (λ b. b && holds) c.is_marked.ensures
          ∙ ap (λ b. marks c.args.body.now j && b) c.loop-place.invariant.goes);
      goes =
          holds_on h start j holds (holds && c.holds_from-holds.result) c.loop-place.invariant.goes
          (ap (λ b. holds && b) c.holds_from-holds.ensures);
    }
