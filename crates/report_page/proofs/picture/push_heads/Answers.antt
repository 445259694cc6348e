use Rattle.report_page.proofs.DrawLaws.{draws_then}
use Rattle.report_page.proofs.picture.push_heads.Goals as goal

pub returns : goal.returns
returns c =
    draws_then (draws_then c.in_ok-push_label.ensures c.in_ok-push_label-2.ensures) c.in_ok-push_clock_heads.ensures
