use Rattle.report_forms.proofs.PieceLaws.{and_then}
use Rattle.report_gtkwave.specs.Saves.{comment_text}
use Rattle.report_gtkwave.proofs.groups.push_comment.Goals as goal

pub returns : goal.returns
unfolding comment_text
returns c =
    and_then (and_then (and_then (and_then (and_then (and_then
    c.in_ok-push_name.ensures c.in_ok-push_letter.ensures) c.in_ok-push_clock.ensures)
    c.in_ok-push_text.ensures) c.in_ok-push_letter-2.ensures) c.in_ok-push_clock-2.ensures)
    c.in_ok-push_text-2.ensures
