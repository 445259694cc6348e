use Rattle.std.proofs.Common.{ℕ, decimal, ◌∷◌, [], string_bytes, subst}
use Rattle.report_page.specs.Pictures.{Draws}
use Rattle.report_page.proofs.DrawLaws.{draws_then}
use Rattle.report_page.proofs.picture.push_head.Goals as goal

pub returns : goal.returns
returns c =
    let time =
    subst
    (λ (n : ℕ). Draws (string_bytes c.push_head_number.new.text) (string_bytes c.push_head_number-2.new.text)
    (decimal n ∷ []))
    c.time.ensures c.in_ok-push_head_number-2.ensures in
    draws_then (draws_then c.in_ok-push_upright.ensures c.in_ok-push_head_number.ensures) time
