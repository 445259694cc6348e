use Rattle.std.proofs.Common.{◌≡◌, ◌≤◌, [], ◌++◌, List, ℕ, String, Global, length, string_bytes, sym}
use Rattle.std.proofs.Common.{subst, arith, append-nil}
use Rattle.std.proofs.lemmas.Bool.Decides.{nat_tests}
use Rattle.report_forms.specs.Grown.{Grows}
use Rattle.report_forms.proofs.PieceLaws.{and_then}
use Rattle.report_explained.specs.SheetText.{IsPlaced, blanks}
use Rattle.report_explained.proofs.SheetLaws.{placed_none, placed_some, placed_more}
use Rattle.report_explained.proofs.columns.push_cells.Goals as goal

pub loop-column-preserved-then-is_empty : goal.loop-column-preserved-then-is_empty
loop-column-preserved-then-is_empty c =
    let cell = c.index-cells-column.result in
    let none : length (string_bytes cell) ≡ 0 = grind (arith, nat_tests) in
    placed_more c.args.cells.now c.loop-column.column cell [] _ _ _ c.loop-column-test.true c.loop-column.invariant
    (subst (λ (x : String Global). IsPlaced (string_bytes x) []) c.index-cells-column.is
    (placed_none (string_bytes cell) none))
    (record { is = sym (append-nil (string_bytes c.loop-column.text)) })

pub loop-column-preserved : goal.loop-column-preserved
loop-column-preserved c =
    let cell = c.index-cells-column.result in
    let due = c.saturating_add-due.result in
    let some : 1 ≤ length (string_bytes cell) = grind (arith, nat_tests) in
    let apart : 2 ≤ due = omega (arith, c.saturating_add-due.ensures, c.saturating_add.ensures) in
    let told = subst (λ (l : List ℕ). Grows (string_bytes c.push_blanks.new.text) (string_bytes c.push_text.new.text) l)
    c.as_str.ensures.value c.in_ok-push_text.ensures in
    placed_more c.args.cells.now c.loop-column.column cell (blanks due ++ string_bytes cell) _ _ _
    c.loop-column-test.true c.loop-column.invariant
    (subst (λ (x : String Global). IsPlaced (string_bytes x) (blanks due ++ string_bytes cell)) c.index-cells-column.is
    (placed_some (string_bytes cell) due apart some))
    (and_then c.in_ok-push_blanks.ensures told)
