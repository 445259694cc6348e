use Rattle.report_forms.specs.JunitForm.{case_text}
use Rattle.report_forms.proofs.PieceLaws.{and_then}
use Rattle.report_forms.proofs.junit_form.push_case.Goals as goal

pub returns : goal.returns
unfolding case_text
returns c =
    let all =
    and_then
    (and_then
    (and_then
    (and_then (and_then c.in_ok-push_attribute.ensures c.in_ok-push_attribute-2.ensures) c.in_ok-push_text.ensures)
    c.in_ok-push_outcome.ensures) c.in_ok-push_counts.ensures)
    c.in_ok-push_text-2.ensures in
    rw c.as_str.ensures.value at all
