use Rattle.std.proofs.Common.{List, ℕ, sym, subst}
use Rattle.report_forms.specs.Provenances.{provenance_of}
use Rattle.report_forms.proofs.PieceLaws.{and_then, from_empty}
use Rattle.report_explained.specs.SheetText.{IsSheetText}
use Rattle.report_explained.proofs.text.section_of.Goals as goal

pub returns : goal.returns
returns c =
    let all =
    and_then (and_then (from_empty c.new-text.ensures.bytes c.in_ok-push_head.ensures) c.in_ok-push_text.ensures)
    c.in_ok-push_cause.ensures in
    record {
      sheet = c.as_str.result.now;
      is_sheet = subst (λ (l : List ℕ). IsSheetText (provenance_of c.args.from.now) c.args.attempt.now.sheet.now l)
          (sym c.as_str.ensures.value) c.in_ok-values.ensures;
      is = all.is;
    }
