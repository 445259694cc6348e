use Rattle.std.proofs.lemmas.Result.{on_ok_weaker}
use Rattle.axi4_rules.specs.Rules.{channel_lines, reset_row, hold_row}
use Rattle.axi4_rules.proofs.AddLaws.{and_then, nothing}
use Rattle.axi4_rules.proofs.channels.push_channel.Goals as goal

pub returns : goal.returns
unfolding channel_lines reset_row hold_row
returns c =
    let rows = and_then c.in_ok-push_row.ensures c.in_ok-push_row-2.ensures in
    on_ok_weaker c.push_wait.result
    (λ h. and_then (and_then (nothing c.in_ok-push_comment.ensures) rows) (and_then c.in_ok-push_stables.ensures h))
    c.push_wait.ensures
