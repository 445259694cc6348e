use Rattle.std.proofs.Common.{◌∙◌, [], ◌∷◌, List, ℕ}
use Rattle.std.proofs.lemmas.Bool.{ne_eqb}
use Rattle.std.proofs.lemmas.Result.{on_ok_weaker}
use Rattle.axi4_rules.specs.Rules.{rule_line, of_channel, wait_row}
use Rattle.axi4_rules.specs.Seen.{port_data}
use Rattle.axi4_rules.proofs.AddLaws.{same_item}
use Rattle.axi4_rules.proofs.channels.push_wait.Goals as goal

pub returns : goal.returns
unfolding wait_row
returns c =
    let line = λ (t : List ℕ). rule_line (of_channel (port_data c.args.port.now) c.args.channel.now t) in
    rw (ne_eqb _ _ c.if-port-eq0.false)
    (on_ok_weaker c.push_row.result
    (same_item line _ _ (wait_row ∷ []) (c.as_str.ensures.value ∙ c.in_ok-item.ensures.ok)) c.push_row.ensures)
