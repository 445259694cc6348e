use Rattle.std.proofs.Common.{◌≡◌, ◌++◌, ℕ, List, length, string_bytes, subst, arith}
use Rattle.std.specs.Prelude.{codes}
use Rattle.std.specs.List.{flat_map}
use Rattle.report_lines.specs.declared.line.Failure.{Failure}
use Rattle.report_lines.specs.Texts.{Grows, counts_text, fail_text, line_text}
use Rattle.report_lines.proofs.Pieces.{and_then, and_none, piece_more, pieces_all}
use Rattle.report_lines.proofs.text.push_line.Goals as goal

pub loop-failure-init : goal.loop-failure-init
loop-failure-init c =
    and_none (fail_text c.as_str-name.result.now)
    (and_then (and_then c.in_ok-push_text.ensures c.in_ok-push_text-2.ensures) c.in_ok-push_counts.ensures)

pub loop-failure-preserved : goal.loop-failure-preserved
loop-failure-preserved c =
    piece_more (fail_text c.as_str-name.result.now) c.deref-failure-items.result.now c.loop-failure.failure-index _ _ _
    _ (codes "monitor " ++ c.as_str-name.result.now ++ counts_text c.args.of.now.counts) c.loop-failure-test.true
    c.loop-failure.invariant c.in_ok-push_failure.ensures

pub returns : goal.returns
unfolding line_text
returns c =
    let of = c.args.of.now in
    let old = string_bytes c.args.text.now in
    let new = string_bytes c.loop-failure.text in
    let done : c.loop-failure.failure-index ≡ length c.deref-failure-items.result.now = omega arith in
    let all =
    pieces_all (fail_text c.as_str-name.result.now) c.deref-failure-items.result.now c.loop-failure.failure-index
    old new (codes "monitor " ++ c.as_str-name.result.now ++ counts_text of.counts) done c.loop-failure.invariant
    in
    let named =
    subst (λ (n : List ℕ). Grows old new
    (codes "monitor " ++ n ++ counts_text of.counts ++ flat_map (fail_text n) c.deref-failure-items.result.now))
    c.as_str-name.ensures.value all in
    subst (λ (xs : List Failure). Grows old new
    (codes "monitor " ++ string_bytes of.name ++ counts_text of.counts
    ++ flat_map (fail_text (string_bytes of.name)) xs)) c.deref-failure-items.ensures.value named
