use Rattle.std.proofs.Common.{◌<◌, ℕ, List, Option, None, String, Global, length, get_or, string_bytes, subst}
use Rattle.report_explained.specs.SheetText.{IsCellText}
use Rattle.report_explained.proofs.ZipLaws.{zip_more}
use Rattle.report_explained.proofs.sheet_text.row_texts.Goals as goal

pub loop-place-preserved : goal.loop-place-preserved
loop-place-preserved c =
    let row = c.args.row.now in
    let made = c.in_ok-cell_text.field-0 in
    let i = c.loop-place.place in
    let same = c.deref-cell-items.ensures.value in
    zip_more (λ (cell : Option ℕ) (text : String Global). IsCellText row.width cell (string_bytes text)) row.cells.items
    i None made c.loop-place.texts.items c.push.new.self.items
    (subst (λ (cells : List (Option ℕ)). i < length cells) same c.loop-place-test.true) c.in_ok-push.ensures.items
    (subst (λ (cells : List (Option ℕ)). IsCellText row.width (get_or cells i None) (string_bytes made)) same
    c.in_ok-cell_text.ensures)
    c.loop-place.invariant
