use Rattle.report_forms.specs.JunitForm.{suite_text}
use Rattle.report_forms.proofs.PieceLaws.{and_then}
use Rattle.report_forms.proofs.junit_form.push_suite.Goals as goal

pub returns : goal.returns
unfolding suite_text
returns c =
    let all =
    and_then
    (and_then
    (and_then
    (and_then
    (and_then (and_then c.in_ok-push_text.ensures c.in_ok-push_attribute.ensures) c.in_ok-push_number.ensures)
    c.in_ok-push_number-2.ensures) c.in_ok-push_number-3.ensures) c.in_ok-push_number-4.ensures)
    c.in_ok-push_text-2.ensures in
    rw (c.assertion_count-all.ensures, c.failed_count-failed.ensures, c.untried_count-untried.ensures) at all
