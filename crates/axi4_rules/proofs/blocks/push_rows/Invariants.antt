use Rattle.std.proofs.Common.{map, take}
use Rattle.axi4_rules.specs.Rows.{fills, row_data, line_in}
use Rattle.axi4_rules.specs.Wholes.{Adds}
use Rattle.axi4_rules.proofs.blocks.push_rows.Given as goal

abbrev pub invariant-loop-row : goal.invariant-loop-row
invariant-loop-row l =
    Adds l.fn.text l.text (map (λ r. line_in l.form (fills l.filling) (row_data r)) (take l.row-index l.rows))
