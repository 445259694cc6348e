use Rattle.std.proofs.Common.{◌&&◌, not, ◌∙◌, ap, refl}
use Rattle.judging.specs.Tables.{marks}
use Rattle.judging.proofs.RowLaws.{row_more, counts_on}
use Rattle.judging.proofs.row.leading_row.Goals as goal

pub loop-place-preserved : goal.loop-place-preserved
loop-place-preserved c =
    let ends = c.args.ends.now in
    let j = c.loop-place.place in
    let counts = c.loop-place.counts in
    record {
      row = row_more _ _ _ _ _ c.loop-place.invariant.row c.in_ok-push.ensures.items
          (ap (λ b. b && counts) c.is_marked-here.ensures
          ∙ ap (λ b. marks ends j && b) c.loop-place.invariant.counts);
      counts =
          counts_on ends j c.args.first counts c.is_marked-here.result _ c.loop-place.invariant.counts
          c.is_marked-here.ensures refl;
    }
