use Rattle.std.proofs.Common.{◌≡◌, ◌∙◌, ◌++◌, [], List, ℕ, Bool, length, sym, ap, subst, arith}
use Rattle.positions.specs.declared.edge.Edge as code
use Rattle.positions.specs.Tables.{Edge}
use Rattle.positions.specs.Living.{sift}
use Rattle.positions.specs.Rows.{rows_size, is_marked_at, kept_rows}
use Rattle.positions.specs.Views.{edges_data, rows_data}
use Rattle.positions.proofs.KeptLaws.{kept-shorter}
use Rattle.positions.proofs.SiftLaws.{map-length, all-kept}
use Rattle.positions.proofs.sift.sift.Goals as goal

pub new-requires : goal.new-requires
new-requires c =
    let keeps : ℕ → Bool = is_marked_at c.as_slice.result.now in
    let rows : List (List (Edge ℕ)) = rows_data c.rows.result.now in
    let short = c.rows.ensures.short in
    omega (
      arith,
      ap rows_size c.in_ok-rows.ensures,
      ap (λ n. rows_size (kept_rows keeps rows n)) (sym (map-length edges_data c.rows.result.now)),
      kept-shorter keeps rows,
      ap rows_size c.rows.ensures.rows,
      short,
    )

pub returns : goal.returns
returns c =
    let marks : List Bool = c.as_slice.result.now in
    let same : c.as_slice-2.result.now ≡ marks = c.as_slice-2.ensures.value ∙ sym c.as_slice.ensures.value in
    c.new.ensures
    ∙ all-kept c.args.table.now (rows_data c.rows.result.now) marks (length c.rows.result.now)
    (rows_data c.in_ok-rows.rows.items) c.put_kept.new.list.items c.admits_empty.result c.rows.ensures.rows
    (λ p. ap (λ ms. is_marked_at ms p) c.as_slice.ensures.value ∙ c.in_ok-marks.ensures p)
    (sym (map-length edges_data c.rows.result.now)) c.in_ok-rows.ensures
    (c.in_ok-put_kept.ensures
    ∙ ap (λ xs. xs ++ sift (is_marked_at c.as_slice-2.result.now) c.starts.result.now) c.new-starts.ensures.items
    ∙ ap (λ ms. [] ++ sift (is_marked_at ms) c.starts.result.now) same
    ∙ ap (λ qs. [] ++ sift (is_marked_at marks) qs) c.starts.ensures)
    c.admits_empty.ensures
