use Rattle.std.proofs.lemmas.Result.{on_ok_weaker}
use Rattle.axi4_rules.specs.Rules.{addresses}
use Rattle.axi4_rules.proofs.AddLaws.{and_then}
use Rattle.axi4_rules.proofs.writing.push_addresses.Goals as goal

pub returns : goal.returns
unfolding addresses
returns c = on_ok_weaker c.push_address-2.result (and_then c.in_ok-push_address.ensures) c.push_address-2.ensures
