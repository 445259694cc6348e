use Rattle.report_page.proofs.DrawLaws.{draws_then}
use Rattle.report_page.proofs.wave.push_value_box.Goals as goal

pub returns : goal.returns
returns c = draws_then c.in_ok-push_box.ensures c.in_ok-push_label.ensures
