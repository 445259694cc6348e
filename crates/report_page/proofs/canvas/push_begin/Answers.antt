use Rattle.report_forms.proofs.PieceLaws.{and_then}
use Rattle.report_page.specs.Pictures.{begin_text}
use Rattle.report_page.proofs.canvas.push_begin.Goals as goal

pub returns : goal.returns
unfolding begin_text
returns c = and_then (and_then c.in_ok-push_number.ensures c.in_ok-push_number-2.ensures) c.in_ok-push_text.ensures
