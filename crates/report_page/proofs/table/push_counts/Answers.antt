use Rattle.report_page.specs.PageForm.{counts_text}
use Rattle.report_forms.proofs.PieceLaws.{and_then}
use Rattle.report_page.proofs.table.push_counts.Goals as goal

pub returns : goal.returns
unfolding counts_text
returns c =
    and_then (and_then (and_then (and_then (and_then c.in_ok-push_number.ensures c.in_ok-push_number-2.ensures)
    c.in_ok-push_number-3.ensures) c.in_ok-push_number-4.ensures) c.in_ok-push_number-5.ensures)
    c.in_ok-push_text.ensures
