use Rattle.report_forms.proofs.PieceLaws.{and_then}
use Rattle.report_page.specs.Pictures.{told_text}
use Rattle.report_page.proofs.picture.push_cause.Goals as goal

pub returns : goal.returns
unfolding told_text
returns c =
    and_then (and_then (and_then c.in_ok-push_text.ensures c.in_ok-push_why.ensures) c.in_ok-push_number.ensures)
    c.in_ok-push_text-2.ensures
