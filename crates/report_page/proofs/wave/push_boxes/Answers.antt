use Rattle.std.proofs.Common.{◌<◌, ℕ, List, Option, None, length, get_or, string_bytes, subst}
use Rattle.report_page.specs.Pictures.{DrawsCell}
use Rattle.report_page.proofs.DrawLaws.{boxes_more}
use Rattle.report_page.proofs.wave.push_boxes.Goals as goal

pub loop-place-preserved : goal.loop-place-preserved
loop-place-preserved c =
    let row = c.args.row.now in
    let i = c.loop-place.place in
    let same = c.deref-cell-items.ensures.value in
    boxes_more row.width row.cells.items i _ _ _
    (subst (λ (cells : List (Option ℕ)). i < length cells) same c.loop-place-test.true) c.loop-place.invariant
    (subst
    (λ (cells : List (Option ℕ)). DrawsCell row.width (get_or cells i None) (string_bytes c.loop-place.text)
    (string_bytes c.push_cell_box.new.text))
    same c.in_ok-push_cell_box.ensures)
