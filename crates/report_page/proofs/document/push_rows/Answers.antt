use Rattle.std.proofs.Common.{◌≡◌, ◌++◌, ◌∙◌, [], ℕ, List, length, string_bytes, sym, ap, subst, arith, append-nil}
use Rattle.report_lines.specs.declared.line.Line.{Line}
use Rattle.report_lines.specs.Lines.{line}
use Rattle.report_forms.specs.Grown.{Grows}
use Rattle.report_forms.specs.Provenances.{provenance_of}
use Rattle.report_forms.proofs.PieceLaws.{piece_more, pieces_all, flat_map-map}
use Rattle.report_page.specs.PageForm.{row_text}
use Rattle.report_page.proofs.document.push_rows.Goals as goal

pub loop-line-init : goal.loop-line-init
loop-line-init c = record { is = sym (append-nil (string_bytes c.args.text.now)) }

pub loop-line-preserved : goal.loop-line-preserved
loop-line-preserved c =
    let p = provenance_of c.args.from.now in
    let item = c.line-item.result in
    let grown =
    subst (λ (x : Line). Grows (string_bytes c.loop-line.text) (string_bytes c.push_row.new.text)
    (row_text p (line x))) c.line-item.is c.in_ok-push_row.ensures in
    piece_more (λ (x : Line). row_text p (line x)) c.args.lines.now c.loop-line.line-index item _ _ _ []
    c.loop-line-test.true c.loop-line.invariant grown

pub returns : goal.returns
returns c =
    let p = provenance_of c.args.from.now in
    let old = string_bytes c.args.text.now in
    let done : c.loop-line.line-index ≡ length c.args.lines.now = omega arith in
    let all =
    pieces_all (λ (x : Line). row_text p (line x)) c.args.lines.now c.loop-line.line-index old
    (string_bytes c.loop-line.text) [] done c.loop-line.invariant in
    record {
      is = all.is ∙ ap (λ (l : List ℕ). old ++ l) (sym (flat_map-map (row_text p) line c.args.lines.now));
    }
