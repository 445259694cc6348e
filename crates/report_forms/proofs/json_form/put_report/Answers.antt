use Rattle.report_forms.proofs.PieceLaws.{wrote, adds_then}
use Rattle.report_forms.proofs.json_form.put_report.Goals as goal

pub returns : goal.returns
returns c =
    let head =
    adds_then
    (adds_then
    (adds_then (adds_then (wrote c.in_ok-begin_object.ensures) c.in_ok-put_number.ensures) c.in_ok-put_text.ensures)
    c.in_ok-put_text-2.ensures) c.in_ok-put_number-2.ensures in
    let tail =
    adds_then (wrote c.in_ok-key-2.ensures) (adds_then c.in_ok-put_counts.ensures c.in_ok-put_end.ensures) in
    let all = adds_then (adds_then (adds_then head (wrote c.in_ok-key.ensures)) c.in_ok-put_lines.ensures) tail in
    rw c.as_slice.ensures.value at all
