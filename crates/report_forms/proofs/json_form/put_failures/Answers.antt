use Rattle.std.proofs.Common.{◌≡◌, ◌∷◌, [], length, arith}
use Rattle.json.specs.Json.{Json}
use Rattle.json.specs.Token.{begin_array}
use Rattle.json.specs.Tree.{json_tokens}
use Rattle.report_lines.specs.declared.line.Failure.{Failure}
use Rattle.report_forms.specs.JsonForm.{failure_json}
use Rattle.report_forms.specs.Provenances.{provenance_of}
use Rattle.report_forms.proofs.PieceLaws.{wrote, adds_then, adds_none, adds_more, adds_all, adds_same, list_tokens}
use Rattle.report_forms.proofs.json_form.put_failures.Goals as goal

pub loop-failure-init : goal.loop-failure-init
loop-failure-init c =
    adds_none (λ (f : Failure). json_tokens (failure_json (provenance_of c.args.from.now) f))
    (wrote c.in_ok-begin_array.ensures)

pub loop-failure-preserved : goal.loop-failure-preserved
loop-failure-preserved c =
    adds_more (λ (f : Failure). json_tokens (failure_json (provenance_of c.args.from.now) f)) c.args.fails.now
    c.loop-failure.failure-index _ _ _ _ (begin_array ∷ []) c.loop-failure-test.true c.loop-failure.invariant
    c.in_ok-put_failure.ensures

pub returns : goal.returns
returns c =
    let one : Failure → Json = failure_json (provenance_of c.args.from.now) in
    let done : c.loop-failure.failure-index ≡ length c.args.fails.now = omega arith in
    let all =
    adds_all (λ (f : Failure). json_tokens (one f)) c.args.fails.now c.loop-failure.failure-index _ _
    (begin_array ∷ []) done c.loop-failure.invariant in
    adds_same (list_tokens one c.args.fails.now) (adds_then all (wrote c.in_ok-end_array.ensures))
