use Rattle.report_page.specs.PageForm.{name_text}
use Rattle.report_forms.proofs.PieceLaws.{and_then}
use Rattle.report_page.proofs.table.push_name.Goals as goal

pub returns-in-None : goal.returns-in-None
unfolding name_text
returns-in-None c = rw c.in-None.is c.push_escaped.ensures

pub returns-in_ok-push_text-in-Some-3 : goal.returns-in_ok-push_text-in-Some-3
unfolding name_text
returns-in_ok-push_text-in-Some-3 c =
    let all =
    and_then
    (and_then
    (and_then
    (and_then (and_then c.in_ok-push_text-in-Some.ensures c.in_ok-push_escaped-in-Some.ensures)
    c.in_ok-push_number-in-Some.ensures) c.in_ok-push_text-in-Some-2.ensures) c.in_ok-push_escaped-in-Some-2.ensures)
    c.in_ok-push_text-in-Some-3.ensures in
    rw c.in-Some.is all
