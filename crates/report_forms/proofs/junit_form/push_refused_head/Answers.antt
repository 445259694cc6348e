use Rattle.report_forms.specs.JunitForm.{refused_head}
use Rattle.report_forms.proofs.PieceLaws.{and_then}
use Rattle.report_forms.proofs.junit_form.push_refused_head.Goals as goal

pub returns : goal.returns
unfolding refused_head
returns c =
    and_then (and_then c.in_ok-push_number.ensures c.in_ok-push_number-2.ensures) c.in_ok-push_text.ensures
