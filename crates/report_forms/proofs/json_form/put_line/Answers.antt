use Rattle.report_forms.proofs.PieceLaws.{wrote, adds_then}
use Rattle.report_forms.proofs.json_form.put_line.Goals as goal

pub returns : goal.returns
returns c =
    let all =
    adds_then
    (adds_then
    (adds_then
    (adds_then
    (adds_then (adds_then (wrote c.in_ok-begin_object.ensures) c.in_ok-put_text.ensures) (wrote c.in_ok-key.ensures))
    c.in_ok-put_counts.ensures) (wrote c.in_ok-key-2.ensures)) c.in_ok-put_failures.ensures)
    (wrote c.in_ok-end_object.ensures) in
    rw (c.as_str.ensures.value, c.as_slice.ensures.value) at all
