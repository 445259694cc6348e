use Rattle.std.proofs.Common.{subst, [], ◌∷◌, codes, List, ℕ}
use Rattle.std.proofs.lemmas.Result.{on_ok_weaker}
use Rattle.axi4_rules.specs.Rules.{rule_line, row, address_rows}
use Rattle.axi4_rules.specs.Rows.{fills}
use Rattle.axi4_rules.specs.Wholes.{Adds}
use Rattle.axi4_rules.proofs.AddLaws.{and_then}
use Rattle.axi4_rules.proofs.channels.push_address_rows.Goals as goal

pub returns : goal.returns
unfolding address_rows
returns c =
    let size_line =
    λ (bound : List ℕ). rule_line (fills c.args.filling) (row (codes "__size") (codes "%valid |-> %size <=") bound) in
    let size =
    subst (λ (bound : List ℕ). Adds c.push_rows.new.text c.push_row.new.text (size_line bound ∷ []))
    c.size_bound.ensures c.in_ok-push_row.ensures in
    on_ok_weaker c.push_rows-2.result (and_then (and_then c.in_ok-push_rows.ensures size)) c.push_rows-2.ensures
