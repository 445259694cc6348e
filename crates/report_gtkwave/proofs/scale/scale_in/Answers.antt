use Rattle.std.proofs.Common.{◌≡◌, ◌∙◌, ℕ, suc, List, ◌∷◌, Option, None, drop, get_or, sym, ap, subst, add-one}
use Rattle.std.proofs.Math.Seq.{drop-cons}
use Rattle.report_gtkwave.specs.Scales.{scale_at, scale_in}
use Rattle.report_gtkwave.proofs.RestLaws.{slice-rest, scale-skip}
use Rattle.report_gtkwave.proofs.scale.scale_in.Goals as goal

pub loop-at-preserved : goal.loop-at-preserved
loop-at-preserved c =
    let bytes = c.args.bytes.now in
    let at = c.loop-at.at in
    let cut : drop at bytes ≡ get_or bytes at 0 ∷ drop (suc at) bytes =
    drop-cons bytes at 0 c.loop-at-test.true in
    let none : scale_at (drop at bytes) ≡ None =
    ap scale_at (sym (slice-rest bytes at)) ∙ sym c.scale_at.ensures ∙ c.in_default.is in
    c.loop-at.invariant ∙ ap scale_in cut
    ∙ scale-skip (get_or bytes at 0) (drop (suc at) bytes)
    (subst (λ (l : List ℕ). scale_at l ≡ None) cut none)
    ∙ ap (λ (n : ℕ). scale_in (drop n bytes)) (sym (add-one at))
