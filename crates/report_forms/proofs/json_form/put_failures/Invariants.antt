use Rattle.std.proofs.Common.{◌∷◌, ◌++◌, [], take}
use Rattle.std.specs.Prelude.{flat_map}
use Rattle.json.specs.Token.{begin_array}
use Rattle.json.specs.Tree.{json_tokens}
use Rattle.report_lines.specs.declared.line.Failure.{Failure}
use Rattle.report_forms.specs.Grown.{Adds}
use Rattle.report_forms.specs.JsonForm.{failure_json}
use Rattle.report_forms.specs.Provenances.{provenance_of}
use Rattle.report_forms.proofs.json_form.put_failures.Given as goal

-- the bracket and the failures so far
abbrev pub invariant-loop-failure : goal.invariant-loop-failure
invariant-loop-failure l =
    Adds l.fn.out l.out
    (begin_array ∷ [] ++ flat_map (λ (f : Failure). json_tokens (failure_json (provenance_of l.from) f))
    (take l.failure-index l.fails))
