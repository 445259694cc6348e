use Rattle.report_forms.specs.JunitForm.{clock_text}
use Rattle.report_forms.proofs.PieceLaws.{and_then}
use Rattle.report_forms.proofs.pieces.push_clock.Goals as goal

pub returns : goal.returns
unfolding clock_text
returns c =
    let all =
    and_then (and_then c.in_ok-push_number.ensures c.in_ok-push_number-2.ensures) c.in_ok-push_text.ensures in
    rw c.time-time.ensures at all
