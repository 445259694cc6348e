use Rattle.std.proofs.Common.{◌∙◌, subst, [], ◌∷◌, List, ℕ}
use Rattle.std.proofs.lemmas.Result.{on_ok_weaker}
use Rattle.axi4_rules.specs.Rules.{of_port}
use Rattle.axi4_rules.specs.Seen.{port_data}
use Rattle.axi4_rules.specs.Rows.{row_data, line_in}
use Rattle.axi4_rules.specs.Wholes.{Adds}
use Rattle.axi4_rules.proofs.blocks.push_id.Goals as goal

pub returns : goal.returns
returns c =
    on_ok_weaker c.push_row.result
    (subst
    (λ (t : List ℕ). Adds c.args.text.now c.push_row.new.text
    (line_in c.args.form (of_port (port_data c.args.port.now) t) (row_data c.args.row) ∷ []))
    (c.as_str.ensures.value ∙ c.in_ok-item.ensures.ok))
    c.push_row.ensures
