use Rattle.report_forms.proofs.PieceLaws.{and_then}
use Rattle.report_page.specs.Pictures.{label, mark_text}
use Rattle.report_page.proofs.DrawLaws.{one_mark}
use Rattle.report_page.proofs.canvas.push_label.Goals as goal

pub returns : goal.returns
unfolding mark_text
returns c =
    let all =
    and_then (and_then (and_then (and_then (and_then (and_then (and_then (and_then c.in_ok-push_text.ensures
    c.in_ok-push_text-2.ensures) c.in_ok-push_text-3.ensures) c.in_ok-push_text-4.ensures) c.in_ok-push_number.ensures)
    c.in_ok-push_number-2.ensures) c.in_ok-push_text-5.ensures) c.in_ok-push_escaped.ensures)
    c.in_ok-push_text-6.ensures in
    one_mark (label c.args.class c.args.anchor c.args.x c.args.y c.args.label.now)
    (rw c.anchor_text.ensures at (rw c.class_text.ensures at all))
