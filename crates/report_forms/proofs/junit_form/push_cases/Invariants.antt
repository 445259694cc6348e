use Rattle.std.proofs.Common.{string_bytes, take}
use Rattle.std.specs.Prelude.{flat_map}
use Rattle.report_lines.specs.declared.line.Line.{Line}
use Rattle.report_lines.specs.Lines.{line}
use Rattle.report_forms.specs.Grown.{Grows}
use Rattle.report_forms.specs.JunitForm.{case_text}
use Rattle.report_forms.specs.Provenances.{provenance_of}
use Rattle.report_forms.proofs.junit_form.push_cases.Given as goal

-- the cases so far
abbrev pub invariant-loop-line : goal.invariant-loop-line
invariant-loop-line l =
    Grows (string_bytes l.fn.text) (string_bytes l.text)
    (flat_map (λ (x : Line). case_text (provenance_of l.from) (line x)) (take l.line-index l.lines))
