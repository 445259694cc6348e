use Rattle.std.proofs.lemmas.Result.{on_ok_weaker}
use Rattle.axi4_rules.specs.Rules.{rule_line, single_rows}
use Rattle.axi4_rules.proofs.AddLaws.{same_filled}
use Rattle.axi4_rules.proofs.responses.push_single_rules.Goals as goal

pub returns-in-Single : goal.returns-in-Single
unfolding single_rows
returns-in-Single c =
    rw c.in-Single.is
    (on_ok_weaker c.push_rows.result (same_filled rule_line _ _ single_rows c.of_port.ensures) c.push_rows.ensures)
