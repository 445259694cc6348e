use Rattle.report_page.specs.PageForm.{row_text}
use Rattle.report_forms.proofs.PieceLaws.{and_then}
use Rattle.report_page.proofs.table.push_row.Goals as goal

pub returns : goal.returns
unfolding row_text
returns c =
    let all =
    and_then (and_then (and_then (and_then (and_then (and_then c.in_ok-push_text.ensures
    c.in_ok-push_text-2.ensures) c.in_ok-push_text-3.ensures) c.in_ok-push_name.ensures)
    c.in_ok-push_counts.ensures) c.in_ok-push_first.ensures) c.in_ok-push_text-4.ensures in
    rw (c.class_of.ensures, c.as_str.ensures.value, c.first_of-first.ensures, c.as_slice.ensures.value) at all
