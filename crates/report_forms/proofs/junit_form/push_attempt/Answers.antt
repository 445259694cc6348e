use Rattle.report_forms.specs.JunitForm.{attempt_text}
use Rattle.report_forms.proofs.PieceLaws.{and_then}
use Rattle.report_forms.proofs.junit_form.push_attempt.Goals as goal

pub returns : goal.returns
unfolding attempt_text
returns c =
    and_then (and_then c.in_ok-push_clock.ensures c.in_ok-push_clock-2.ensures) c.in_ok-push_text.ensures
