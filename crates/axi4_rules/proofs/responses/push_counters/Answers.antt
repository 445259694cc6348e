use Rattle.std.proofs.lemmas.Result.{on_ok_weaker}
use Rattle.axi4_rules.specs.Rules.{counter_line, counter_lines, counter_rows, writes_row, reads_row}
use Rattle.axi4_rules.proofs.AddLaws.{and_then, same_filled}
use Rattle.axi4_rules.proofs.responses.push_counters.Goals as goal

pub returns : goal.returns
unfolding counter_lines counter_rows writes_row reads_row
returns c =
    let rows = same_filled counter_line _ _ counter_rows c.of_port.ensures c.in_ok-push_rows.ensures in
    let ids = and_then (and_then rows c.in_ok-push_ids.ensures) c.in_ok-push_ids-2.ensures in
    on_ok_weaker c.push_single_counters.result (and_then ids) c.push_single_counters.ensures
