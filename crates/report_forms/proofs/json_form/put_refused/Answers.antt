use Rattle.report_forms.proofs.PieceLaws.{wrote, adds_then}
use Rattle.report_forms.proofs.json_form.put_refused.Goals as goal

pub returns : goal.returns
returns c =
    let both =
    adds_then (adds_then (wrote c.in_ok-begin_object.ensures) c.in_ok-put_text.ensures) c.in_ok-put_text-2.ensures in
    adds_then both (wrote c.in_ok-end_object.ensures)
