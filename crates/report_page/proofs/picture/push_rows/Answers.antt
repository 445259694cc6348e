use Rattle.std.proofs.Common.{◌<◌, List, length, get_or, string_bytes, subst}
use Rattle.report_explained.specs.declared.sheet.SheetRow.{SheetRow}
use Rattle.report_page.specs.Pictures.{DrawsRow}
use Rattle.report_page.proofs.DrawLaws.{rows_more}
use Rattle.report_page.proofs.picture.push_rows.Goals as goal

pub loop-number-preserved : goal.loop-number-preserved
loop-number-preserved c =
    let i = c.loop-number.number in
    let row = c.row-item.result in
    let old = string_bytes c.loop-number.text in
    let new = string_bytes c.push_row.new.text in
    let same = c.deref-row-items.ensures.value in
    rows_more c.args.sheet.now.rows.items i row _ _ _
    (subst (λ (rows : List SheetRow). i < length rows) same c.loop-number-test.true) c.loop-number.invariant
    (subst (λ (rows : List SheetRow). DrawsRow (get_or rows i row) old new) same
    (subst (λ (x : SheetRow). DrawsRow x old new) c.row-item.is c.in_ok-push_row.ensures))
