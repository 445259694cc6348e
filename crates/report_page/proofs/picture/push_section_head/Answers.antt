use Rattle.report_page.specs.PageForm.{section_head}
use Rattle.report_forms.proofs.PieceLaws.{and_then}
use Rattle.report_page.proofs.picture.push_section_head.Goals as goal

pub returns : goal.returns
unfolding section_head
returns c =
    and_then (and_then (and_then (and_then (and_then (and_then (and_then (and_then (and_then (and_then (and_then
    (and_then c.in_ok-push_text.ensures c.in_ok-push_escaped.ensures) c.in_ok-push_number.ensures)
    c.in_ok-push_text-2.ensures) c.in_ok-push_escaped-2.ensures) c.in_ok-push_text-3.ensures)
    c.in_ok-push_escaped-3.ensures) c.in_ok-push_number-2.ensures) c.in_ok-push_number-3.ensures)
    c.in_ok-push_clock.ensures) c.in_ok-push_clock-2.ensures) c.in_ok-push_number-4.ensures)
    c.in_ok-push_text-4.ensures
