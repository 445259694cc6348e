use Rattle.std.proofs.Common.{◌≡◌, ◌∷◌, ◌∙◌, [], length, ap, sym, arith}
use Rattle.json.specs.Json.{Json}
use Rattle.json.specs.Token.{begin_array}
use Rattle.json.specs.Tree.{json_tokens}
use Rattle.report_forms.specs.declared.refused.Refused.{Refused}
use Rattle.report_forms.specs.JsonForm.{refused_json, list_of}
use Rattle.report_forms.specs.Refusals.{refused_of}
use Rattle.report_forms.proofs.PieceLaws.{wrote, adds_then, adds_none, adds_more, adds_all, adds_same, list_tokens}
use Rattle.report_forms.proofs.PieceLaws.{map-map}
use Rattle.report_forms.proofs.json_form.put_refused_list.Goals as goal

pub loop-item-init : goal.loop-item-init
loop-item-init c =
    adds_none (λ (x : Refused). json_tokens (refused_json (refused_of x)))
    (wrote c.in_ok-begin_array.ensures)

pub loop-item-preserved : goal.loop-item-preserved
loop-item-preserved c =
    adds_more (λ (x : Refused). json_tokens (refused_json (refused_of x)))
    c.args.refused.now c.loop-item.item-index _ _ _
    _ (begin_array ∷ []) c.loop-item-test.true c.loop-item.invariant c.in_ok-put_refused.ensures

pub returns : goal.returns
returns c =
    let one : Refused → Json = λ x. refused_json (refused_of x) in
    let items = c.args.refused.now in
    let done : c.loop-item.item-index ≡ length items = omega arith in
    let all =
    adds_all (λ (x : Refused). json_tokens (one x)) items c.loop-item.item-index _ _ (begin_array ∷ []) done
    c.loop-item.invariant in
    adds_same
    (list_tokens one items ∙ ap (λ js. json_tokens (list_of js)) (sym (map-map refused_json refused_of items)))
    (adds_then all (wrote c.in_ok-end_array.ensures))
