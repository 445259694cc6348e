use Rattle.std.proofs.Common.{◌∙◌, ◌+◌, sym, ap, map, Ok, append-nil}
use Rattle.std.proofs.lemmas.List.{map-append}
use Rattle.axi4_rules.specs.Seen.{line_data}
use Rattle.axi4_rules.proofs.LineLaws.{behind, left, left-skipped, left-said, left-refused, left-none, behind-onto}
use Rattle.axi4_rules.proofs.LineLaws.{carried, handed_on}
use Rattle.axi4_rules.proofs.read.read_lines.Goals as goal

pub loop-index-preserved-then-branch : goal.loop-index-preserved-then-branch
loop-index-preserved-then-branch c =
    c.loop-index.invariant
    ∙ ap (behind (map line_data c.loop-index.ports.items))
    (left-skipped c.args.lines.now c.loop-index.index _ c.loop-index-test.true (sym c.in_ok-is_skipped.ensures
    ∙ c.if-branch.true))

pub returns-in_err-port : goal.returns-in_err-port
returns-in_err-port c =
    handed_on _ _ c.in_err-port.field-0.0 _ c.from_residual-in_err-port.ensures.1
    (carried c.in_err-port.field-0.0 _ _
    (λ said.
    c.loop-index.invariant
    ∙ ap (behind (map line_data c.loop-index.ports.items))
    (left-refused c.args.lines.now c.loop-index.index _ c.in_err-port.field-0.0 c.loop-index-test.true
    (sym c.in_ok-is_skipped.ensures ∙ c.if-branch.false) said))
    c.in_err-port.ensures)

pub loop-index-preserved : goal.loop-index-preserved
loop-index-preserved c =
    c.loop-index.invariant
    ∙ ap (behind (map line_data c.loop-index.ports.items))
    (left-said c.args.lines.now c.loop-index.index _ (line_data c.in_ok-port.port) c.loop-index-test.true
    (sym c.in_ok-is_skipped.ensures ∙ c.if-branch.false) c.in_ok-port.ensures)
    ∙ behind-onto (map line_data c.loop-index.ports.items) (line_data c.in_ok-port.port)
    (left c.args.lines.now (c.loop-index.index + 1))
    ∙ ap (λ ps. behind ps (left c.args.lines.now (c.loop-index.index + 1)))
    (sym (ap (map line_data) c.in_ok-push.ensures.items ∙ map-append line_data _ _))

pub returns : goal.returns
returns c =
    c.loop-index.invariant
    ∙ ap (behind (map line_data c.loop-index.ports.items))
    (left-none c.args.lines.now c.loop-index.index c.loop-index-test.false)
    ∙ ap Ok (append-nil _)
