use Rattle.std.proofs.Common.{◌∷◌, ◌++◌, [], take}
use Rattle.std.specs.Prelude.{flat_map}
use Rattle.json.specs.Token.{begin_array}
use Rattle.json.specs.Tree.{json_tokens}
use Rattle.report_forms.specs.declared.refused.Refused.{Refused}
use Rattle.report_forms.specs.Grown.{Adds}
use Rattle.report_forms.specs.JsonForm.{refused_json}
use Rattle.report_forms.specs.Refusals.{refused_of}
use Rattle.report_forms.proofs.json_form.put_refused_list.Given as goal

-- the bracket and those so far
abbrev pub invariant-loop-item : goal.invariant-loop-item
invariant-loop-item l =
    Adds l.fn.out l.out
    (begin_array ∷ [] ++ flat_map (λ (x : Refused). json_tokens (refused_json (refused_of x)))
    (take l.item-index l.refused))
