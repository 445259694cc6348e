use Rattle.std.proofs.Common.{◌<◌, ℕ, List, length, get_or, map, subst}
use Rattle.report_explained.specs.declared.sheet.SheetRow.{SheetRow}
use Rattle.report_explained.specs.SheetText.{line_data, GrowsByRow}
use Rattle.report_explained.proofs.SheetLaws.{rows_more}
use Rattle.report_explained.proofs.sheet_text.push_rows.Goals as goal

pub loop-row-preserved : goal.loop-row-preserved
loop-row-preserved c =
    let clocks = c.args.sheet.now.clocks.items in
    let i = c.loop-row.row-index in
    let row = c.row-item.result in
    let old = map line_data c.loop-row.lines.items in
    let new = map line_data c.push_row.new.lines.items in
    let same = c.deref-row-items.ensures.value in
    let told = subst (λ (cs : List ℕ). GrowsByRow cs row old new) c.as_slice-clocks.ensures.value
    c.in_ok-push_row.ensures in
    rows_more clocks c.args.sheet.now.rows.items i row _ _ _
    (subst (λ (rows : List SheetRow). i < length rows) same c.loop-row-test.true) c.loop-row.invariant
    (subst (λ (rows : List SheetRow). GrowsByRow clocks (get_or rows i row) old new) same
    (subst (λ (x : SheetRow). GrowsByRow clocks x old new) c.row-item.is told))
