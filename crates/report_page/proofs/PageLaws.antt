-- The pieces of a page.
use Rattle.std.proofs.Common.{◌≡◌, ◌∙◌, ◌++◌, ℕ, List, [], map, string_bytes, sym, ap}
use Rattle.std.proofs.Common.{String, Global}
use Rattle.std.specs.Prelude.{flat_map}
use Rattle.std.specs.List.{AllZip}
use Rattle.report_lines.specs.Lines.{ReportData}
use Rattle.report_forms.specs.Escapes.{escaped}
use Rattle.report_forms.specs.Grown.{Grows}
use Rattle.report_forms.specs.Provenances.{ProvenanceData}
use Rattle.report_forms.proofs.PieceLaws.{and_then, flat_map-map}
use Rattle.report_explained.specs.declared.failed_attempt.FailedAttempt.{FailedAttempt}
use Rattle.report_explained.proofs.AllLaws.{zip_mapped}
use Rattle.report_page.specs.PageForm.{IsPlain, intro_text, row_text, IsSection, IsSectionOf, IsPage}

-- what was put together is a page
pub paged :
    {head style table table_end end s1 s2 t1 t2 t3 t4 t5 t6 t7 : List ℕ} (p : ProvenanceData) (r : ReportData)
    (pictures : List FailedAttempt) (made : List (String Global)) (bytes : List ℕ) → bytes ≡ t7
    → AllZip (IsSectionOf p) pictures made → Grows [] s1 head → Grows s1 s2 (escaped p.dump) → Grows s2 t1 style
    → Grows t1 t2 (intro_text p r) → Grows t2 t3 table → Grows t3 t4 (flat_map (row_text p) r.lines)
    → Grows t4 t5 table_end → Grows t5 t6 (flat_map (λ s. string_bytes s) made) → Grows t6 t7 end → IsPlain head
    → IsPlain style → IsPlain table → IsPlain table_end → IsPlain end → IsPage p r pictures bytes
paged {head} {style} {table} {table_end} {end} p r pictures made bytes same each g1 g2 g3 g4 g5 g6 g7 g8 g9 a b c d e =
    let before = head ++ escaped p.dump ++ style ++ intro_text p r ++ table ++ flat_map (row_text p) r.lines
    ++ table_end in
    let front = and_then (and_then g1 g2) g3 in
    let all = and_then (and_then (and_then (and_then (and_then (and_then front g4) g5) g6) g7) g8) g9 in
    record {
      between = record { head = head; style = style; table = table; table_end = table_end; end = end };
      plain = record { head = a; style = b; table = c; table_end = d; end = e };
      sections = map (λ (s : String Global). string_bytes s) made;
      each = zip_mapped (IsSection p) (λ (s : String Global). string_bytes s) pictures made each;
      is = same ∙ all.is
          ∙ ap (λ (l : List ℕ). before ++ l ++ end)
          (sym (flat_map-map (λ (l : List ℕ). l) (λ (s : String Global). string_bytes s) made));
    }
