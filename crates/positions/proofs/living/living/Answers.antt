use Rattle.std.proofs.Common.{◌∙◌, ap, arith}
use Rattle.positions.proofs.SiftLaws.{marks-next, marks-all}
use Rattle.positions.specs.Rows.{is_marked_at}
use Rattle.positions.specs.Views.{rows_data}
use Rattle.positions.proofs.living.living.Goals as goal

pub loop-tick-init : goal.loop-tick-init
loop-tick-init c = λ p. ap (λ ms. is_marked_at ms p) c.new-marks.ensures.items

pub loop-tick-preserved : goal.loop-tick-preserved
loop-tick-preserved c =
    marks-next (rows_data c.args.rows.now) c.loop-tick._tick c.as_slice.result.now c.in_ok-marks.marks.items
    (λ p. ap (λ ms. is_marked_at ms p) c.as_slice.ensures.value ∙ c.loop-tick.invariant p) c.in_ok-marks.ensures

pub returns : goal.returns
returns c =
    marks-all c.args.rows.now c.loop-tick._tick c.loop-tick.marks.items
    (omega (arith, c.loop-tick-test.false, c.loop-tick.auto._tick-end)) c.loop-tick.invariant
