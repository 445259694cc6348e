use Rattle.report_forms.proofs.PieceLaws.{and_then}
use Rattle.report_gtkwave.specs.Saves.{zoom_text}
use Rattle.report_gtkwave.proofs.zoom.push_zoom.Goals as goal

pub returns : goal.returns
unfolding zoom_text
returns c = and_then c.in_ok-push_number.ensures c.in_ok-push_text.ensures
