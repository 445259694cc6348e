use Rattle.std.proofs.Common.{List, ℕ, ◌∷◌, [], string_bytes, refl, subst}
use Rattle.report_page.specs.Pictures.{Draws}
use Rattle.report_page.proofs.DrawLaws.{draws_then}
use Rattle.report_page.proofs.wave.push_row.Goals as goal

pub returns : goal.returns
returns c =
    let values = c.in_ok-push_values.ensures in
    let name =
    subst (λ (l : List ℕ). Draws (string_bytes c.args.text.now) (string_bytes c.push_label.new.text) (l ∷ []))
    c.as_str.ensures.value c.in_ok-push_label.ensures in
    record {
      labels = string_bytes c.args.row.now.label ∷ values.labels;
      are = record { values = values.labels; are_values = values.are; are = refl };
      draws = draws_then name values.draws;
    }
