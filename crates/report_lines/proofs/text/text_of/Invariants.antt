use Rattle.std.proofs.Common.{◌++◌, [], string_bytes, take}
use Rattle.std.specs.Prelude.{codes}
use Rattle.std.specs.List.{flat_map}
use Rattle.report_lines.specs.declared.line.Line.{Line}
use Rattle.report_lines.specs.Lines.{line}
use Rattle.report_lines.specs.Texts.{Grows, field_text, line_text}
use Rattle.report_lines.proofs.text.text_of.Given as goal

-- the head and the lines so far
abbrev pub invariant-loop-line : goal.invariant-loop-line
invariant-loop-line l =
    Grows [] (string_bytes l.text)
    ((field_text (codes "svamon 1\nclocks ") l.fn.report.clocks ++ codes "\n")
    ++ flat_map (λ (x : Line). line_text (line x)) (take l.line-index l.line-items))
