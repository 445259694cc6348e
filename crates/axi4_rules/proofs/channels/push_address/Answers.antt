use Rattle.std.proofs.Common.{◌∙◌, List, ℕ}
use Rattle.std.proofs.lemmas.Result.{on_ok_weaker}
use Rattle.axi4_rules.specs.Rules.{rule_line, of_channel, address_lines, address_rows}
use Rattle.axi4_rules.specs.Seen.{port_data}
use Rattle.axi4_rules.proofs.AddLaws.{and_then, nothing, same_item}
use Rattle.axi4_rules.proofs.channels.push_address.Goals as goal

pub returns : goal.returns
unfolding address_lines
returns c =
    let port = port_data c.args.port.now in
    let line = λ (t : List ℕ). rule_line (of_channel port c.args.channel.now t) in
    let item = c.as_str.ensures.value ∙ c.in_ok-item.ensures.ok in
    on_ok_weaker c.push_address_rows.result
    (λ h.
    and_then (nothing c.in_ok-push_comment.ensures) (same_item line _ _ (address_rows port.sizes.data_width) item h))
    c.push_address_rows.ensures
