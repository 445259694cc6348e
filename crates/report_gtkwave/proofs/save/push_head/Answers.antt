use Rattle.std.proofs.Common.{ℕ, subst}
use Rattle.report_forms.proofs.PieceLaws.{and_then}
use Rattle.report_gtkwave.specs.Saves.{head_text}
use Rattle.report_gtkwave.proofs.save.push_head.Goals as goal

pub returns : goal.returns
unfolding head_text
returns c =
    let all =
    and_then (and_then (and_then c.in_ok-push_text.ensures c.in_ok-push_on_line.ensures) c.in_ok-push_wide.ensures)
    c.in_ok-push_text-2.ensures in
    rw c.first_clock.ensures at (rw c.wave_time-start.ensures at all)
