use Rattle.report_page.proofs.DrawLaws.{steps_then}
use Rattle.report_page.proofs.wave.push_steps.Goals as goal

pub loop-place-preserved : goal.loop-place-preserved
loop-place-preserved c = steps_then c.loop-place.invariant c.in_ok-push_cell_step.ensures
