use Rattle.std.proofs.Common.{arith}
use Rattle.report_explained.proofs.ChosenLaws.{chosen_more, chosen_all}
use Rattle.report_explained.proofs.choices.choices_of.Goals as goal

pub loop-place-preserved : goal.loop-place-preserved
loop-place-preserved c =
    chosen_more c.args.wanted.now c.args.lines.now c.loop-place.place c.index-lines-place.result
    c.loop-place.choices.items c.push_wanted.new.choices.items _ c.loop-place-test.true c.index-lines-place.is
    c.in_ok-push_wanted.ensures c.loop-place.invariant

pub returns : goal.returns
returns c =
    chosen_all c.args.wanted.now c.args.lines.now c.loop-place.place c.loop-place.choices.items _
    (omega (arith, c.loop-place-test.false)) c.loop-place.invariant
