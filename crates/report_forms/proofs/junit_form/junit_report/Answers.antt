use Rattle.std.proofs.Common.{◌∙◌, ℕ, Vec, Global, ap}
use Rattle.report_forms.specs.JunitForm.{junit_text}
use Rattle.report_forms.proofs.PieceLaws.{and_then, from_empty}
use Rattle.report_forms.proofs.junit_form.junit_report.Goals as goal

pub returns : goal.returns
unfolding junit_text
returns c =
    let all =
    and_then
    (and_then
    (and_then (and_then c.in_ok-push_suite.ensures c.in_ok-push_cases.ensures) c.in_ok-push_text.ensures)
    c.in_ok-push_refused_suite.ensures)
    c.in_ok-push_text-2.ensures in
    let whole = (from_empty c.new-text.ensures.bytes all).is in
    ap (λ (v : Vec ℕ Global). v.items) c.into_bytes.ensures.value ∙ rw c.as_slice.ensures.value at whole
