use Rattle.report_forms.proofs.PieceLaws.{and_then}
use Rattle.report_gtkwave.specs.Saves.{signal_text}
use Rattle.report_gtkwave.proofs.groups.push_signal.Goals as goal

pub returns : goal.returns
unfolding signal_text
returns c =
    let all =
    and_then (and_then (and_then c.in_ok-push_text.ensures c.in_ok-push_text-2.ensures) c.in_ok-push_bytes.ensures)
    c.in_ok-push_text-3.ensures in
    rw c.as_str-path.ensures.value at (rw c.suffix_in.ensures at (rw c.format_of.ensures at all))
