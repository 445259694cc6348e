use Rattle.report_forms.proofs.PieceLaws.{and_then}
use Rattle.report_page.specs.Pictures.{wave, mark_text}
use Rattle.report_page.proofs.DrawLaws.{one_mark}
use Rattle.report_page.proofs.wave.push_wave.Goals as goal

pub returns : goal.returns
unfolding mark_text
returns c =
    let steps = c.in_ok-push_steps.ensures in
    one_mark (wave steps.steps)
    (and_then (and_then c.in_ok-push_text.ensures steps.grown) c.in_ok-push_text-2.ensures)
