use Rattle.std.proofs.Common.{◌≡◌, ◌<◌, [], List, length, map, ap, sym, ◌∙◌, arith}
use Rattle.std.proofs.lemmas.Bool.Decides.{nat_tests}
use Rattle.std.specs.Vec.{vec_len}
use Rattle.std.specs.List.{flat_map}
use Rattle.cli_names.specs.declared.rows.Row.{Row}
use Rattle.cli_names.specs.Rows.{row_data}
use Rattle.cli_names.specs.Tables.{line_text, widths_of, table_text}
use Rattle.cli_names.proofs.TableLaws.{ok-same, none-listed, table-some}
use Rattle.cli_names.proofs.table.table_of.Goals as goal

pub returns-then-is_empty : goal.returns-then-is_empty
returns-then-is_empty c =
    let rows = c.args.told.now.rows in
    let none : vec_len rows ≡ 0 = grind (arith, nat_tests) in
    let empty : rows.items ≡ [] = none-listed rows.items (omega arith) in
    ok-same (λ v. v.items) c.none_of.result _ _
    (ap (λ (rs : List Row). table_text (map row_data rs) c.args.told.now.total) (sym empty)) c.none_of.ensures

pub returns : goal.returns
returns c =
    let rows = c.args.told.now.rows in
    let some : 0 < vec_len rows = grind (arith, nat_tests) in
    let long : 0 < length rows.items = omega arith in
    ok-same (λ v. v.items) c.lines_of.result _ _
    (ap (λ (rs : List Row). flat_map (line_text (widths_of (map row_data rs))) (map row_data rs)) c.deref.ensures.value
    ∙ sym (table-some rows.items c.args.told.now.total long)) c.lines_of.ensures
