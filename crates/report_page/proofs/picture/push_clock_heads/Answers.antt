use Rattle.report_forms.specs.Provenances.{provenance_of}
use Rattle.report_page.specs.Pictures.{clock_labels}
use Rattle.report_page.proofs.DrawLaws.{numbers_more}
use Rattle.report_page.proofs.picture.push_clock_heads.Goals as goal

pub loop-place-preserved : goal.loop-place-preserved
loop-place-preserved c =
    numbers_more (clock_labels (provenance_of c.args.from.now)) c.args.clocks.now c.loop-place.place _ _ _
    c.loop-place-test.true c.loop-place.invariant c.in_ok-push_head.ensures
