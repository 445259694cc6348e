use Rattle.std.proofs.Common.{◌≡◌, [], ℕ, List, length, sym, subst, arith, append-nil}
use Rattle.report_explained.specs.declared.failed_attempt.FailedAttempt.{FailedAttempt}
use Rattle.report_forms.specs.Grown.{Grows}
use Rattle.report_forms.specs.Provenances.{provenance_of}
use Rattle.report_forms.proofs.PieceLaws.{piece_more, pieces_all}
use Rattle.report_gtkwave.specs.Saves.{pair_text}
use Rattle.report_gtkwave.proofs.markers.push_pairs.Goals as goal

pub loop-attempt-init : goal.loop-attempt-init
loop-attempt-init c = record { is = sym (append-nil c.args.out.now.items) }

pub loop-attempt-preserved : goal.loop-attempt-preserved
loop-attempt-preserved c =
    let p = provenance_of c.args.from.now in
    let old = c.loop-attempt.out.items in
    let new = c.push_pair.new.out.items in
    let grown =
    subst (λ (x : FailedAttempt). Grows old new (pair_text p c.args.scale x)) c.attempt-item.is
    c.in_ok-push_pair.ensures in
    piece_more (pair_text p c.args.scale) c.args.attempts.now c.loop-attempt.attempt-index c.attempt-item.result _ _ _
    [] c.loop-attempt-test.true c.loop-attempt.invariant grown

pub returns : goal.returns
returns c =
    let p = provenance_of c.args.from.now in
    let done : c.loop-attempt.attempt-index ≡ length c.args.attempts.now = omega arith in
    pieces_all (pair_text p c.args.scale) c.args.attempts.now c.loop-attempt.attempt-index _ _ [] done
    c.loop-attempt.invariant
