use Rattle.std.proofs.Common.{◌≡◌, ◌++◌, ◌∙◌, [], ℕ, List, length, string_bytes, sym, ap, subst, arith}
use Rattle.std.specs.Prelude.{codes}
use Rattle.std.specs.List.{flat_map}
use Rattle.report_lines.specs.declared.line.Line.{Line}
use Rattle.report_lines.specs.Lines.{line}
use Rattle.report_lines.specs.Texts.{Grows, field_text, counts_text, line_text, report_text}
use Rattle.report_lines.proofs.Pieces.{and_then, and_none, from_empty, piece_more, pieces_all, flat_map-map}
use Rattle.report_lines.proofs.text.text_of.Goals as goal

pub loop-line-init : goal.loop-line-init
loop-line-init c =
    from_empty c.new-text.ensures.bytes
    (and_none (λ (x : Line). line_text (line x)) (and_then c.in_ok-push_field.ensures c.in_ok-push_text.ensures))

pub loop-line-preserved : goal.loop-line-preserved
loop-line-preserved c =
    let item = c.line-item.result in
    let grown =
    subst (λ (x : Line). Grows (string_bytes c.loop-line.text) (string_bytes c.push_line.new.text)
    (line_text (line x))) c.line-item.is c.in_ok-push_line.ensures in
    piece_more (λ (x : Line). line_text (line x)) c.deref-line-items.result.now c.loop-line.line-index item _ _ _
    (field_text (codes "svamon 1\nclocks ") c.args.report.now.clocks ++ codes "\n") c.loop-line-test.true
    c.loop-line.invariant grown

pub returns : goal.returns
unfolding report_text
returns c =
    let head = field_text (codes "svamon 1\nclocks ") c.args.report.now.clocks ++ codes "\n" in
    let done : c.loop-line.line-index ≡ length c.deref-line-items.result.now = omega arith in
    let all =
    pieces_all (λ (x : Line). line_text (line x)) c.deref-line-items.result.now c.loop-line.line-index []
    (string_bytes c.loop-line.text) head done c.loop-line.invariant in
    let whole = (and_then (and_then all c.in_ok-push_text-2.ensures) c.in_ok-push_counts.ensures).is in
    let tail = codes "total" in
    let end = counts_text c.args.report.now.total in
    whole
    ∙ ap (λ xs. head ++ flat_map (λ (x : Line). line_text (line x)) xs ++ tail ++ end) c.deref-line-items.ensures.value
    ∙ ap (λ (l : List ℕ). head ++ l ++ tail ++ end) (sym (flat_map-map line_text line c.args.report.now.lines.items))
