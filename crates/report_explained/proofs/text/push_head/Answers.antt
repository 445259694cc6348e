use Rattle.report_forms.proofs.PieceLaws.{and_then}
use Rattle.report_explained.specs.ExplainedText.{head_text}
use Rattle.report_explained.proofs.text.push_head.Goals as goal

pub returns : goal.returns
unfolding head_text
returns c =
    let all =
    and_then (and_then (and_then (and_then (and_then (and_then (and_then (and_then (and_then (and_then (and_then
    c.in_ok-push_text.ensures c.in_ok-push_text-2.ensures) c.in_ok-push_text-3.ensures) c.in_ok-push_text-4.ensures)
    c.in_ok-push_number.ensures) c.in_ok-push_number-2.ensures) c.in_ok-push_clock.ensures)
    c.in_ok-push_clock-2.ensures) c.in_ok-push_number-3.ensures) c.in_ok-push_text-5.ensures)
    c.in_ok-push_text-6.ensures) c.in_ok-push_text-7.ensures in
    rw c.plural.ensures at all
