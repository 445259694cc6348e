use Rattle.report_page.specs.Pictures.{Step}
use Rattle.report_page.proofs.DrawLaws.{one_step}
use Rattle.report_page.proofs.wave.push_cell_step.Goals as goal

pub returns-in_ok-push_step-in-Some-Some : goal.returns-in_ok-push_step-in-Some-Some
returns-in_ok-push_step-in-Some-Some c =
    let step : Step = record {
      goes_on = c.goes_on-is_on.result;
      left = c.left.result;
      right = c.right.result;
      level = c.level_of-level.result;
    } in
    one_step step c.in_ok-push_step-in-Some-Some.ensures
