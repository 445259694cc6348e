use Rattle.std.proofs.Common.{arith}
use Rattle.positions.proofs.SiftLaws.{marks-whole}
use Rattle.positions.proofs.reach.kept.Goals as goal

pub returns : goal.returns
returns c =
    marks-whole c.args.table.now c.loop-place.place c.loop-place.marks.items
    (omega (arith, c.loop-place-test.false, c.loop-place.auto.place-end, c.len-place-end.ensures))
    c.loop-place.invariant
