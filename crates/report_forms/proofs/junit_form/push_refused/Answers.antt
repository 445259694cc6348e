use Rattle.report_forms.specs.JunitForm.{refused_text}
use Rattle.report_forms.proofs.PieceLaws.{and_then}
use Rattle.report_forms.proofs.junit_form.push_refused.Goals as goal

pub returns : goal.returns
unfolding refused_text
returns c =
    let both = and_then c.in_ok-push_attribute.ensures c.in_ok-push_attribute-2.ensures in
    and_then (and_then both c.in_ok-push_attribute-3.ensures) c.in_ok-push_text.ensures
