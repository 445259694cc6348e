use Rattle.std.proofs.Common.{sym, subst}
use Rattle.axi4_rules.specs.Rows.{fills, row_data, line_in}
use Rattle.axi4_rules.specs.Wholes.{Adds}
use Rattle.axi4_rules.proofs.AddLaws.{all_done, map-map}
use Rattle.axi4_rules.proofs.blocks.push_rows.Goals as goal

pub returns : goal.returns
returns c =
    subst (Adds c.args.text.now c.loop-row.text)
    (sym (map-map (line_in c.args.form (fills c.args.filling)) row_data c.args.rows.now))
    (all_done _ c.args.rows.now c.loop-row.row-index _ _ c.loop-row-test.false c.loop-row.invariant)
