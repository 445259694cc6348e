use Rattle.diagnostics.proofs.Pieces.{and_then}
use Rattle.diagnostics.proofs.refusal_text.push_total.Goals as goal

pub returns : goal.returns
returns c =
    and_then
    (and_then (and_then c.in_ok-push_number.ensures c.in_ok-push_text.ensures) c.in_ok-push_number-2.ensures)
    c.in_ok-push_text-2.ensures
