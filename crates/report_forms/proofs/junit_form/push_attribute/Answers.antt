use Rattle.report_forms.specs.JunitForm.{attribute}
use Rattle.report_forms.proofs.PieceLaws.{and_then}
use Rattle.report_forms.proofs.junit_form.push_attribute.Goals as goal

pub returns : goal.returns
unfolding attribute
returns c =
    and_then (and_then c.in_ok-push_text.ensures c.in_ok-push_escaped.ensures) c.in_ok-push_text-2.ensures
