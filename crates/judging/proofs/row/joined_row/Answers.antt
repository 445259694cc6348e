use Rattle.std.proofs.Common.{◌≡◌, true, false, arith}
use Rattle.std.proofs.lemmas.Grind.{common_steps}
use Rattle.judging.specs.Tables.{marks}
use Rattle.judging.proofs.RowLaws.{join_skip, join_more}
use Rattle.judging.proofs.row.joined_row.Goals as goal

pub loop-place-preserved-then-not-front-place : goal.loop-place-preserved-then-not-front-place
loop-place-preserved-then-not-front-place c =
    let off : marks c.args.front.now c.loop-place.place ≡ false = grind (arith, common_steps) in
    join_skip _ _ _ _ _ _ c.loop-place.invariant off

pub loop-place-preserved : goal.loop-place-preserved
loop-place-preserved c =
    let on : marks c.args.front.now c.loop-place.place ≡ true = grind (arith, common_steps) in
    join_more _ _ _ _ _ _ _ _ c.loop-place.invariant on c.row.ensures c.merge_from.ensures.long
    c.merge_from.ensures.each
