use Rattle.report_lines.proofs.Pieces.{and_then}
use Rattle.cli_names.proofs.table.push_noted.Goals as goal

pub returns : goal.returns
returns c = and_then (and_then c.in_ok-push_left.ensures c.in_ok-push_blanks.ensures) c.in_ok-push_text.ensures
