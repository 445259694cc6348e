use Rattle.report_forms.proofs.PieceLaws.{and_then}
use Rattle.report_page.specs.Pictures.{frame, mark_text}
use Rattle.report_page.proofs.DrawLaws.{one_mark}
use Rattle.report_page.proofs.canvas.push_box.Goals as goal

pub returns : goal.returns
unfolding mark_text
returns c =
    let all =
    and_then (and_then (and_then (and_then (and_then (and_then c.in_ok-push_text.ensures c.in_ok-push_text-2.ensures)
    c.in_ok-push_number.ensures) c.in_ok-push_number-2.ensures) c.in_ok-push_number-3.ensures)
    c.in_ok-push_number-4.ensures) c.in_ok-push_text-3.ensures in
    one_mark (frame c.args.class c.args.x c.args.y c.args.width c.args.height) (rw c.class_text.ensures at all)
