use Rattle.std.proofs.Common.{◌≡◌, ◌∙◌, ◌+◌, ℕ, List, min, max, length, map, drop, ap, arith}
use Rattle.cli_names.specs.Rows.{row_data}
use Rattle.cli_names.specs.Tables.{cell, most, width_of}
use Rattle.cli_names.proofs.ColumnLaws.{width-none, width-next}
use Rattle.cli_names.proofs.column.width_of.Goals as goal

pub loop-row-preserved : goal.loop-row-preserved
loop-row-preserved c =
    let rows = c.args.rows.now in
    let i = c.loop-row.row-index in
    let long = ap (λ (x : List ℕ). length x) c.cell.ensures in
    let n : c.min.result ≡ min (length (cell c.args.column (row_data c.row-item.result))) (most c.args.column) =
    c.min.ensures ∙ ap (λ (m : ℕ). min (length c.cell.result.now) m) c.most.ensures
    ∙ ap (λ (m : ℕ). min m (most c.args.column)) long in
    ap (λ (w : ℕ). max w (width_of c.args.column (map row_data (drop (i + 1) rows)))) c.larger-width.ensures
    ∙ width-next c.args.column rows i c.row-item.result c.loop-row.width c.min.result c.loop-row-test.true
    c.row-item.is n
    ∙ c.loop-row.invariant

pub returns : goal.returns
returns c =
    let none = width-none c.args.column c.args.rows.now c.loop-row.row-index c.loop-row-test.false in
    let same = c.loop-row.invariant in
    omega arith
