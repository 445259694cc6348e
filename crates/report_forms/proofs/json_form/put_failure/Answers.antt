use Rattle.report_forms.proofs.PieceLaws.{wrote, adds_then}
use Rattle.report_forms.proofs.json_form.put_failure.Goals as goal

pub returns : goal.returns
returns c =
    adds_then
    (adds_then
    (adds_then
    (adds_then (adds_then (wrote c.in_ok-begin_object.ensures) c.in_ok-put_number.ensures) c.in_ok-put_time.ensures)
    c.in_ok-put_number-2.ensures) c.in_ok-put_time-2.ensures)
    (wrote c.in_ok-end_object.ensures)
