use Rattle.std.proofs.Common.{◌∷◌, ◌++◌, [], take}
use Rattle.std.specs.Prelude.{flat_map}
use Rattle.json.specs.Token.{begin_array}
use Rattle.json.specs.Tree.{json_tokens}
use Rattle.report_lines.specs.declared.line.Line.{Line}
use Rattle.report_lines.specs.Lines.{line}
use Rattle.report_forms.specs.Grown.{Adds}
use Rattle.report_forms.specs.JsonForm.{line_json}
use Rattle.report_forms.specs.Provenances.{provenance_of}
use Rattle.report_forms.proofs.json_form.put_lines.Given as goal

-- the bracket and the assertions so far
abbrev pub invariant-loop-line : goal.invariant-loop-line
invariant-loop-line l =
    Adds l.fn.out l.out
    (begin_array ∷ [] ++ flat_map (λ (x : Line). json_tokens (line_json (provenance_of l.from) (line x)))
    (take l.line-index l.lines))
