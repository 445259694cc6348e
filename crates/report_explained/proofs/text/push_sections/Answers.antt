use Rattle.std.proofs.Common.{◌≡◌, [], ℕ, List, length, string_bytes, sym, subst, arith, append-nil}
use Rattle.std.proofs.Common.{String, Global}
use Rattle.report_forms.specs.Grown.{Grows}
use Rattle.report_forms.proofs.PieceLaws.{piece_more, pieces_all}
use Rattle.report_explained.proofs.text.push_sections.Goals as goal

pub loop-section-init : goal.loop-section-init
loop-section-init c = record { is = sym (append-nil (string_bytes c.args.text.now)) }

pub loop-section-preserved : goal.loop-section-preserved
loop-section-preserved c =
    let old = string_bytes c.loop-section.text in
    let new = string_bytes c.push_text.new.text in
    let told = subst (λ (l : List ℕ). Grows old new l) c.as_str.ensures.value c.in_ok-push_text.ensures in
    piece_more (λ s. string_bytes s) c.args.sections.now c.loop-section.section-index c.section-item.result _ _ _ []
    c.loop-section-test.true c.loop-section.invariant
    (subst (λ (s : String Global). Grows old new (string_bytes s)) c.section-item.is told)

pub returns : goal.returns
returns c =
    let done : c.loop-section.section-index ≡ length c.args.sections.now = omega arith in
    pieces_all (λ s. string_bytes s) c.args.sections.now c.loop-section.section-index _ _ [] done
    c.loop-section.invariant
