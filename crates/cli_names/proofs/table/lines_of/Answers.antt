use Rattle.std.proofs.Common.{◌≡◌, ◌∙◌, [], length, map, sym, ap, subst, arith}
use Rattle.std.specs.List.{flat_map}
use Rattle.report_lines.specs.Texts.{Grows}
use Rattle.report_lines.proofs.Pieces.{piece_more, pieces_all, flat_map-map}
use Rattle.cli_names.specs.declared.rows.Row.{Row}
use Rattle.cli_names.specs.Rows.{row_data}
use Rattle.cli_names.specs.Tables.{Widths, line_text, widths_of}
use Rattle.cli_names.proofs.ColumnLaws.{widths-same}
use Rattle.cli_names.proofs.table.lines_of.Goals as goal

pub loop-row-preserved : goal.loop-row-preserved
loop-row-preserved c =
    let w : Widths = record {
      path = c.width_of.result;
      size = c.width_of-2.result;
      range = c.width_of-3.result;
      kind = c.width_of-4.result;
    } in
    let grown = subst (λ (x : Row). Grows c.loop-row.out.items c.push_line.new.out.items (line_text w (row_data x)))
    c.row-item.is c.in_ok-push_line.ensures in
    piece_more (λ (x : Row). line_text w (row_data x)) c.args.rows.now c.loop-row.row-index c.row-item.result _ _ _ []
    c.loop-row-test.true c.loop-row.invariant grown

pub returns : goal.returns
returns c =
    let rows = c.args.rows.now in
    let w : Widths = record {
      path = c.width_of.result;
      size = c.width_of-2.result;
      range = c.width_of-3.result;
      kind = c.width_of-4.result;
    } in
    let done : c.loop-row.row-index ≡ length rows = omega arith in
    let all = pieces_all (λ (x : Row). line_text w (row_data x)) rows c.loop-row.row-index [] c.loop-row.out.items []
    done c.loop-row.invariant in
    let same : w ≡ widths_of (map row_data rows) =
    widths-same (map row_data rows) w c.width_of.ensures c.width_of-2.ensures c.width_of-3.ensures c.width_of-4.ensures
    in
    all.is ∙ sym (flat_map-map (line_text w) row_data rows)
    ∙ ap (λ (x : Widths). flat_map (line_text x) (map row_data rows)) same
