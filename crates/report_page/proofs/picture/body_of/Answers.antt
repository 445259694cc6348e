use Rattle.std.proofs.Common.{List, ℕ, sym, subst}
use Rattle.report_forms.specs.Provenances.{provenance_of}
use Rattle.report_forms.proofs.PieceLaws.{and_then, from_empty}
use Rattle.report_page.specs.Pictures.{ArePictureLabels}
use Rattle.report_page.proofs.picture.body_of.Goals as goal

pub returns : goal.returns
returns c =
    let made = c.in_ok-push_marks.ensures in
    let all =
    and_then (and_then (and_then (from_empty c.new-text.ensures.bytes c.in_ok-push_begin.ensures) made.draws.grown)
    c.in_ok-push_text.ensures) c.in_ok-push_cause.ensures in
    record {
      width = _;
      height = _;
      marks = made.draws.marks;
      labelled = subst
          (λ (ls : List (List ℕ)). ArePictureLabels (provenance_of c.args.from.now) c.args.picture.now.sheet.now ls)
          (sym made.draws.labelled) made.are;
      is = all.is;
    }
