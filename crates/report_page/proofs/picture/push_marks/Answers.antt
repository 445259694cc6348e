use Rattle.std.proofs.Common.{◌++◌, List, ℕ, string_bytes, refl, subst}
use Rattle.report_forms.specs.Provenances.{provenance_of}
use Rattle.report_page.specs.Pictures.{Draws, head_labels}
use Rattle.report_page.proofs.DrawLaws.{draws_then, draws_bare}
use Rattle.report_page.proofs.picture.push_marks.Goals as goal

pub returns : goal.returns
returns c =
    let p = provenance_of c.args.from.now in
    let clocks = c.args.picture.now.sheet.now.clocks.items in
    let rows = c.in_ok-push_rows.ensures in
    let heads =
    subst
    (λ (ns : List ℕ). Draws (string_bytes c.push_band.new.text) (string_bytes c.push_heads.new.text) (head_labels p ns))
    c.as_slice-clocks.ensures.value c.in_ok-push_heads.ensures in
    record {
      labels = head_labels p clocks ++ rows.labels;
      are = record { rows = rows.labels; are_rows = rows.are; are = refl };
      draws = draws_bare (draws_then (draws_then c.in_ok-push_band.ensures heads) rows.draws)
          c.in_ok-push_antecedent.ensures;
    }
