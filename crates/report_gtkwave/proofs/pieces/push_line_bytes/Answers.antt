use Rattle.std.proofs.Common.{◌≡◌, [], ℕ, length, sym, subst, arith, append-nil}
use Rattle.report_forms.specs.Grown.{Grows}
use Rattle.report_forms.proofs.PieceLaws.{piece_more, pieces_all}
use Rattle.report_gtkwave.specs.Saves.{line_byte}
use Rattle.report_gtkwave.proofs.pieces.push_line_bytes.Goals as goal

pub loop-byte-init : goal.loop-byte-init
loop-byte-init c = record { is = sym (append-nil c.args.out.now.items) }

pub loop-byte-preserved : goal.loop-byte-preserved
loop-byte-preserved c =
    piece_more line_byte c.args.bytes.now c.loop-byte.byte-index 0 _ _ _ [] c.loop-byte-test.true
    c.loop-byte.invariant c.in_ok-push_line_byte.ensures

pub returns : goal.returns
returns c =
    let done : c.loop-byte.byte-index ≡ length c.args.bytes.now = omega arith in
    pieces_all line_byte c.args.bytes.now c.loop-byte.byte-index _ _ [] done c.loop-byte.invariant
