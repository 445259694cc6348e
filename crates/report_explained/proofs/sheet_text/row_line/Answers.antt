use Rattle.std.proofs.Common.{◌∙◌, List, ℕ, None, String, Global, map, string_bytes, ap}
use Rattle.report_explained.specs.SheetText.{LineData, IsCellText, with_gaps}
use Rattle.report_explained.proofs.AllLaws.{zip_mapped}
use Rattle.report_explained.proofs.sheet_text.row_line.Goals as goal

pub returns : goal.returns
returns c =
    let row = c.args.row.now in
    let clocks = c.args.clocks.now in
    let texts = c.in_ok-texts.texts.items in
    let cells = c.in_ok-cells.ensures
    ∙ ap (λ (ts : List (String Global)). with_gaps None clocks (map string_bytes ts)) c.as_slice.ensures.value in
    record {
      texts = map string_bytes texts;
      each = zip_mapped (IsCellText row.width) (λ (t : String Global). string_bytes t) row.cells.items texts
          c.in_ok-texts.ensures;
      is = ap (λ (l : List ℕ). let d : LineData = (l, map string_bytes c.in_ok-cells.cells.items) in d)
          c.in_ok-clone.ensures.cases
          ∙ ap (λ (ts : List (List ℕ)). let d : LineData = (string_bytes row.label, ts) in d) cells;
    }
