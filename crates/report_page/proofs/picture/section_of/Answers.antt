use Rattle.std.proofs.Common.{List, ℕ, sym, subst}
use Rattle.report_forms.specs.Provenances.{provenance_of}
use Rattle.report_forms.proofs.PieceLaws.{and_then, from_empty}
use Rattle.report_page.specs.Pictures.{IsPicture}
use Rattle.report_page.proofs.picture.section_of.Goals as goal

pub returns : goal.returns
returns c =
    let all =
    and_then (from_empty c.new-section.ensures.bytes c.in_ok-push_section_head.ensures) c.in_ok-push_text.ensures in
    record {
      picture = c.as_str.result.now;
      is_picture = subst (λ (l : List ℕ). IsPicture (provenance_of c.args.from.now) c.args.picture.now l)
          (sym c.as_str.ensures.value) c.in_ok-body.ensures;
      is = all.is;
    }
