use Rattle.report_lines.specs.Texts.{fail_text}
use Rattle.report_lines.proofs.Pieces.{and_then}
use Rattle.report_lines.proofs.text.push_failure.Goals as goal

pub returns : goal.returns
unfolding fail_text
returns c =
    and_then
    (and_then
    (and_then (and_then c.in_ok-push_text.ensures c.in_ok-push_text-2.ensures) c.in_ok-push_field.ensures)
    c.in_ok-push_field-2.ensures) c.in_ok-push_text-3.ensures
