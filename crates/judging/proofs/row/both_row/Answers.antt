use Rattle.std.proofs.Common.{◌≡◌, ◌||◌, ◌&&◌, ◌∙◌, ap}
use Rattle.judging.specs.Tables.{marks}
use Rattle.judging.proofs.RowLaws.{row_more, later_here, ended_here}
use Rattle.judging.proofs.row.both_row.Goals as goal

pub loop-place-preserved : goal.loop-place-preserved
loop-place-preserved c =
    let j = c.loop-place.place in
    let one = c.args.one.now in
    let other = c.args.other.now in
    let one_ended = c.loop-place.one_ended || c.is_marked-one_ended.result in
    let other_ended = c.loop-place.other_ended || c.is_marked-other_ended.result in
    let one_is : one_ended ≡ (c.loop-place.one_ended || marks one j) =
    ap (λ b. c.loop-place.one_ended || b) c.is_marked-one_ended.ensures in
    let other_is : other_ended ≡ (c.loop-place.other_ended || marks other j) =
    ap (λ b. c.loop-place.other_ended || b) c.is_marked-other_ended.ensures in
    let here : c.is_later_end-here.result ≡ ((marks one j && other_ended) || (one_ended && marks other j)) =
    c.is_later_end-here.ensures
    ∙ ap (λ b. (b && other_ended) || (one_ended && c.is_marked-in-loop-place.result)) c.is_marked.ensures
    ∙ ap (λ b. (marks one j && other_ended) || (one_ended && b)) c.is_marked-in-loop-place.ensures in
    record {
      row = row_more _ _ _ _ _ c.loop-place.invariant.row c.in_ok-push.ensures.items
          (later_here one other j c.is_later_end-here.result c.loop-place.one_ended c.loop-place.other_ended one_ended
          other_ended c.loop-place.invariant.one c.loop-place.invariant.other one_is other_is here);
      one = ended_here one j c.loop-place.one_ended one_ended c.loop-place.invariant.one one_is;
      other = ended_here other j c.loop-place.other_ended other_ended c.loop-place.invariant.other other_is;
    }
