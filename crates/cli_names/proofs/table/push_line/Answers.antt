use Rattle.std.proofs.Common.{◌≡◌, ◌∙◌, ℕ, List, subst}
use Rattle.report_lines.specs.Texts.{Grows}
use Rattle.report_lines.proofs.Pieces.{and_then}
use Rattle.cli_names.specs.Rows.{row_data}
use Rattle.cli_names.specs.Notes.{note_text}
use Rattle.cli_names.specs.Tables.{left, right, ending, line_text}
use Rattle.cli_names.proofs.table.push_line.Goals as goal

pub returns : goal.returns
unfolding line_text
returns c =
    let w = c.args.widths.now in
    let r = row_data c.args.row.now in
    let path = subst (λ (t : List ℕ). Grows c.args.out.now.items c.push_left.new.out.items (left w.path t))
    c.cell.ensures c.in_ok-push_left.ensures in
    let size = subst (λ (t : List ℕ). Grows c.push_blanks.new.out.items c.push_right.new.out.items (right w.size t))
    c.cell-2.ensures c.in_ok-push_right.ensures in
    let range = subst (λ (t : List ℕ). Grows c.push_blanks-2.new.out.items c.push_left-2.new.out.items (left w.range t))
    c.cell-3.ensures c.in_ok-push_left-2.ensures in
    let note : c.as_bytes.result.now ≡ note_text r.note = c.as_bytes.ensures.value ∙ c.text.ensures in
    let kind = subst (λ (t : List ℕ). Grows c.push_blanks-3.new.out.items c.push_ending.new.out.items
    (ending w.kind t (note_text r.note))) c.cell-4.ensures
    (subst (λ (t : List ℕ). Grows c.push_blanks-3.new.out.items c.push_ending.new.out.items
    (ending w.kind c.cell-4.result.now t)) note c.in_ok-push_ending.ensures) in
    let end = subst (λ (t : List ℕ). Grows c.push_ending.new.out.items c.push_text.new.out.items t)
    c.as_slice.ensures c.in_ok-push_text.ensures in
    and_then
    (and_then
    (and_then
    (and_then (and_then (and_then (and_then path c.in_ok-push_blanks.ensures) size) c.in_ok-push_blanks-2.ensures)
    range)
    c.in_ok-push_blanks-3.ensures)
    kind)
    end
