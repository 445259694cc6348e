use Rattle.std.proofs.Common.{◌≡◌, ◌∙◌, ◌++◌, ℕ, List, String, Global, string_bytes, map, sym, ap, subst}
use Rattle.std.specs.List.{AllZip, flat_map}
use Rattle.report_forms.specs.Grown.{Grows}
use Rattle.report_forms.specs.Provenances.{provenance_of}
use Rattle.report_forms.proofs.PieceLaws.{from_empty, flat_map-map}
use Rattle.report_explained.specs.declared.columns.Line.{Line}
use Rattle.report_explained.specs.SheetText.{LineData, line_data, head_lines, IsLineText}
use Rattle.report_explained.proofs.AllLaws.{zip_viewed}
use Rattle.report_explained.proofs.text.sheet_text.Goals as goal

pub returns : goal.returns
returns c =
    let p = provenance_of c.args.from.now in
    let sheet = c.args.sheet.now in
    let rows = c.in_ok-push_rows.ensures in
    let lines = c.push_rows.new.lines.items in
    let texts = c.in_ok-texts.texts.items in
    let head : map line_data c.in_ok-lines.lines.items ≡ head_lines p sheet.clocks.items =
    c.in_ok-lines.ensures ∙ ap (head_lines p) c.as_slice-clocks.ensures.value in
    let all : map line_data lines ≡ head_lines p sheet.clocks.items ++ flat_map (λ ls. ls) rows.each =
    rows.grown ∙ ap (λ (ls : List LineData). ls ++ flat_map (λ ls. ls) rows.each) head in
    let told : AllZip IsLineText (map line_data lines) (map string_bytes texts) =
    zip_viewed IsLineText line_data (λ (t : String Global). string_bytes t) lines texts
    (subst (λ (ls : List Line). AllZip (λ line text. IsLineText (line_data line) (string_bytes text)) ls texts)
    c.as_slice.ensures.value c.in_ok-texts.ensures) in
    let text =
    from_empty c.new-text.ensures.bytes
    (subst
    (λ (ts : List (String Global)). Grows (string_bytes c.new-text.result) (string_bytes c.push_sections.new.text)
    (flat_map (λ t. string_bytes t) ts))
    c.as_slice-2.ensures.value c.in_ok-push_sections.ensures) in
    record {
      rows = rows.each;
      each = rows.are;
      texts = map string_bytes texts;
      told = subst (λ (ls : List LineData). AllZip IsLineText ls (map string_bytes texts)) all told;
      is = text.is ∙ sym (flat_map-map (λ (l : List ℕ). l) (λ (t : String Global). string_bytes t) texts);
    }
