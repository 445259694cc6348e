use Rattle.std.proofs.Common.{◌≡◌, [], length, string_bytes, sym, arith, append-nil}
use Rattle.report_forms.proofs.PieceLaws.{piece_more, pieces_all}
use Rattle.report_explained.specs.ExplainedText.{next_end}
use Rattle.report_explained.proofs.text.push_next_ends.Goals as goal

pub loop-end-init : goal.loop-end-init
loop-end-init c = record { is = sym (append-nil (string_bytes c.args.text.now)) }

pub loop-end-preserved : goal.loop-end-preserved
loop-end-preserved c =
    piece_more (next_end c.args.back) c.args.ends.now c.loop-end.end-index 0 _ _ _ [] c.loop-end-test.true
    c.loop-end.invariant (rw c.saturating_sub.ensures at c.in_ok-push_number.ensures)

pub returns : goal.returns
returns c =
    let done : c.loop-end.end-index ≡ length c.args.ends.now = omega arith in
    pieces_all (next_end c.args.back) c.args.ends.now c.loop-end.end-index _ _ [] done c.loop-end.invariant
