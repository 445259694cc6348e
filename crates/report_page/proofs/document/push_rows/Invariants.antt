use Rattle.std.proofs.Common.{string_bytes, take}
use Rattle.std.specs.Prelude.{flat_map}
use Rattle.report_lines.specs.declared.line.Line.{Line}
use Rattle.report_lines.specs.Lines.{line}
use Rattle.report_forms.specs.Grown.{Grows}
use Rattle.report_forms.specs.Provenances.{provenance_of}
use Rattle.report_page.specs.PageForm.{row_text}
use Rattle.report_page.proofs.document.push_rows.Given as goal

-- the rows so far
abbrev pub invariant-loop-line : goal.invariant-loop-line
invariant-loop-line l =
    Grows (string_bytes l.fn.text) (string_bytes l.text)
    (flat_map (λ (x : Line). row_text (provenance_of l.from) (line x)) (take l.line-index l.lines))
