use Rattle.report_forms.proofs.PieceLaws.{and_then}
use Rattle.report_gtkwave.proofs.markers.push_pair.Goals as goal

pub returns : goal.returns
returns c = and_then c.in_ok-push_time.ensures c.in_ok-push_time-2.ensures
