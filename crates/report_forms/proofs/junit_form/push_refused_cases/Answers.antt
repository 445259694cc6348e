use Rattle.std.proofs.Common.{◌≡◌, ◌++◌, ◌∙◌, [], ℕ, List, length, string_bytes, sym, ap, arith, append-nil}
use Rattle.report_forms.specs.declared.refused.Refused.{Refused}
use Rattle.report_forms.specs.JunitForm.{refused_text}
use Rattle.report_forms.specs.Provenances.{provenance_of}
use Rattle.report_forms.specs.Refusals.{refused_of}
use Rattle.report_forms.proofs.PieceLaws.{piece_more, pieces_all, flat_map-map}
use Rattle.report_forms.proofs.junit_form.push_refused_cases.Goals as goal

pub loop-item-init : goal.loop-item-init
loop-item-init c = record { is = sym (append-nil (string_bytes c.args.text.now)) }

pub loop-item-preserved : goal.loop-item-preserved
loop-item-preserved c =
    let p = provenance_of c.args.from.now in
    piece_more (λ (x : Refused). refused_text p (refused_of x)) c.args.refused.now c.loop-item.item-index _ _ _ _ []
    c.loop-item-test.true c.loop-item.invariant c.in_ok-push_refused.ensures

pub returns : goal.returns
returns c =
    let p = provenance_of c.args.from.now in
    let old = string_bytes c.args.text.now in
    let done : c.loop-item.item-index ≡ length c.args.refused.now = omega arith in
    let all =
    pieces_all (λ (x : Refused). refused_text p (refused_of x)) c.args.refused.now c.loop-item.item-index old
    (string_bytes c.loop-item.text) [] done c.loop-item.invariant in
    record {
      is = all.is ∙ ap (λ (l : List ℕ). old ++ l) (sym (flat_map-map (refused_text p) refused_of c.args.refused.now));
    }
