use Rattle.report_forms.proofs.PieceLaws.{and_then}
use Rattle.report_explained.specs.ExplainedText.{led_text}
use Rattle.report_explained.proofs.text.push_led.Goals as goal

pub returns : goal.returns
unfolding led_text
returns c =
    let all =
    and_then (and_then (and_then (and_then (and_then c.in_ok-push_text.ensures c.in_ok-push_text-2.ensures)
    c.in_ok-push_ends.ensures) c.in_ok-push_from.ensures) c.in_ok-push_number.ensures) c.in_ok-push_text-3.ensures in
    rw c.back-back.ensures at (rw c.plural.ensures at all)
