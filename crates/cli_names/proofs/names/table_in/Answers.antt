use Rattle.std.proofs.Common.{◌∙◌, ℕ, List, length, sym, ap, arith}
use Rattle.std.proofs.lemmas.List.{length-map}
use Rattle.vcd_declarations.specs.Declarations.{declarations}
use Rattle.cli_names.specs.Rows.{RowData, row_data, rows_told}
use Rattle.cli_names.specs.Tables.{table_text}
use Rattle.cli_names.proofs.names.table_in.Goals as goal

pub told_in-requires : goal.told_in-requires
told_in-requires c =
    c.declarations_law.ensures c.args.bytes.now c.requires.0 c.requires.1 ∙ sym c.requires.2.variables

pub returns : goal.returns
returns c =
    let told = c.in_ok-told.told in
    let rows = rows_told c.args.filter.now (declarations c.args.bytes.now) in
    let long = ap (λ (rs : List RowData). length rs) c.in_ok-told.ensures.rows in
    let same = length-map told.rows.items row_data in
    record {
      text = c.in_ok-table.ensures
          ∙ ap (λ (rs : List RowData). table_text rs told.total) c.in_ok-told.ensures.rows
          ∙ ap (λ (n : ℕ). table_text rows n) c.in_ok-told.ensures.total;
      counted = omega arith;
    }
