use Rattle.std.proofs.lemmas.Result.{on_ok_weaker}
use Rattle.axi4_rules.specs.Rules.{channels, address_payload, write_payload, response_payload, read_payload}
use Rattle.axi4_rules.proofs.AddLaws.{and_then}
use Rattle.axi4_rules.proofs.writing.push_channels.Goals as goal

pub returns : goal.returns
unfolding channels address_payload write_payload response_payload read_payload
returns c =
    let writes = and_then c.in_ok-push_channel.ensures c.in_ok-push_channel-2.ensures in
    let reads = and_then (and_then writes c.in_ok-push_channel-3.ensures) c.in_ok-push_channel-4.ensures in
    on_ok_weaker c.push_channel-5.result (and_then reads) c.push_channel-5.ensures
