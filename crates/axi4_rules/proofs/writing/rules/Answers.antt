use Rattle.std.proofs.Common.{◌∙◌}
use Rattle.axi4_rules.specs.Rules.{table}
use Rattle.axi4_rules.proofs.AddLaws.{and_then, from_nothing}
use Rattle.axi4_rules.proofs.writing.rules.Goals as goal

pub returns-clause-text : goal.returns-clause-text
unfolding table
returns-clause-text c =
    c.into_text.ensures
    ∙ from_nothing c.new-text.ensures
    (and_then (and_then c.in_ok-push_channels.ensures c.in_ok-push_addresses.ensures) c.in_ok-push_counting.ensures)
