use Rattle.report_lines.specs.Texts.{counts_text}
use Rattle.report_lines.proofs.Pieces.{and_then}
use Rattle.report_lines.proofs.text.push_counts.Goals as goal

pub returns : goal.returns
unfolding counts_text
returns c =
    and_then
    (and_then
    (and_then
    (and_then (and_then c.in_ok-push_field.ensures c.in_ok-push_field-2.ensures) c.in_ok-push_field-3.ensures)
    c.in_ok-push_field-4.ensures) c.in_ok-push_field-5.ensures)
    c.in_ok-push_text.ensures
