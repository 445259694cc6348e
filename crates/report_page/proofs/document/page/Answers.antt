use Rattle.std.proofs.Common.{ℕ, List, String, Vec, Global, string_bytes, refl, ap, subst}
use Rattle.std.specs.Prelude.{flat_map, map}
use Rattle.report_lines.specs.declared.line.Line.{Line}
use Rattle.report_lines.specs.Lines.{line}
use Rattle.report_lines.specs.Shown.{data_of}
use Rattle.report_forms.specs.Grown.{Grows}
use Rattle.report_forms.specs.Provenances.{provenance_of}
use Rattle.report_forms.proofs.PieceLaws.{from_empty}
use Rattle.report_page.specs.PageForm.{has_text, row_text}
use Rattle.report_page.proofs.PageLaws.{paged}
use Rattle.report_page.proofs.document.page.Goals as goal

pub returns : goal.returns
unfolding has_text
returns c =
    let p = provenance_of c.args.from.now in
    let rows =
    subst
    (λ (ls : List Line). Grows (string_bytes c.push_text-3.new.text) (string_bytes c.push_rows.new.text)
    (flat_map (row_text p) (map line ls)))
    c.as_slice.ensures.value c.in_ok-push_rows.ensures in
    let sections =
    subst
    (λ (ss : List (String Global)). Grows (string_bytes c.push_text-4.new.text) (string_bytes c.push_sections.new.text)
    (flat_map (λ s. string_bytes s) ss))
    c.as_slice-2.ensures.value c.in_ok-push_sections.ensures in
    paged p (data_of c.args.report.now) c.args.pictures.now c.in_ok-sections.sections.items _
    (ap (λ (v : Vec ℕ Global). v.items) c.into_bytes.ensures.value) c.in_ok-sections.ensures
    (from_empty c.new-text.ensures.bytes c.in_ok-push_text.ensures) c.in_ok-push_escaped.ensures
    c.in_ok-push_text-2.ensures c.in_ok-push_intro.ensures c.in_ok-push_text-3.ensures rows
    c.in_ok-push_text-4.ensures sections c.in_ok-push_text-5.ensures (refl, refl, refl)
    (refl, refl, refl) (refl, refl, refl) (refl, refl, refl) (refl, refl, refl)
