use Rattle.std.proofs.lemmas.Result.{on_ok_weaker}
use Rattle.axi4_rules.specs.Rules.{rule_line, response_lines, response_rows, write_id_row, read_id_row}
use Rattle.axi4_rules.proofs.AddLaws.{and_then, same_filled}
use Rattle.axi4_rules.proofs.responses.push_responses.Goals as goal

pub returns : goal.returns
unfolding response_lines response_rows write_id_row read_id_row
returns c =
    let rows = same_filled rule_line _ _ response_rows c.of_port.ensures c.in_ok-push_rows.ensures in
    let ids = and_then (and_then rows c.in_ok-push_ids.ensures) c.in_ok-push_ids-2.ensures in
    on_ok_weaker c.push_single_rules.result (and_then ids) c.push_single_rules.ensures
