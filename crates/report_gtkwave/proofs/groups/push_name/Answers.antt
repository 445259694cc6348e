use Rattle.report_forms.proofs.PieceLaws.{and_then}
use Rattle.report_gtkwave.specs.Saves.{name_text}
use Rattle.report_gtkwave.proofs.groups.push_name.Goals as goal

pub returns : goal.returns
unfolding name_text
returns c =
    and_then (and_then (and_then (and_then (and_then (and_then
    c.in_ok-push_text.ensures c.in_ok-push_on_line.ensures) c.in_ok-push_text-2.ensures)
    c.in_ok-push_on_line-2.ensures) c.in_ok-push_number.ensures) c.in_ok-push_number-2.ensures)
    c.in_ok-push_text-3.ensures
