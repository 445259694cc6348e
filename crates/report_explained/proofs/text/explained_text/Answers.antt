use Rattle.std.proofs.Common.{◌∙◌, ℕ, List, String, Global, string_bytes, map, sym, subst}
use Rattle.std.specs.Prelude.{flat_map}
use Rattle.report_forms.specs.Grown.{Grows}
use Rattle.report_forms.specs.Provenances.{provenance_of}
use Rattle.report_forms.proofs.PieceLaws.{from_empty, flat_map-map}
use Rattle.report_explained.specs.ExplainedText.{IsSection}
use Rattle.report_explained.proofs.AllLaws.{zip_mapped}
use Rattle.report_explained.proofs.text.explained_text.Goals as goal

pub returns : goal.returns
returns c =
    let made = c.in_ok-sections.sections.items in
    let all =
    from_empty c.new-text.ensures.bytes
    (subst
    (λ (ss : List (String Global)). Grows (string_bytes c.new-text.result) (string_bytes c.push_sections.new.text)
    (flat_map (λ s. string_bytes s) ss))
    c.as_slice.ensures.value c.in_ok-push_sections.ensures) in
    record {
      sections = map (λ (s : String Global). string_bytes s) made;
      each = zip_mapped (IsSection (provenance_of c.args.from.now)) (λ (s : String Global). string_bytes s)
          c.args.attempts.now made c.in_ok-sections.ensures;
      is = all.is ∙ sym (flat_map-map (λ (l : List ℕ). l) (λ (s : String Global). string_bytes s) made);
    }
