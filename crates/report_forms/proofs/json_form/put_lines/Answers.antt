use Rattle.std.proofs.Common.{◌≡◌, ◌∷◌, ◌∙◌, [], length, subst, ap, sym, arith}
use Rattle.json.specs.Json.{Json}
use Rattle.json.specs.Token.{begin_array}
use Rattle.json.specs.Tree.{json_tokens}
use Rattle.report_lines.specs.declared.line.Line.{Line}
use Rattle.report_lines.specs.Lines.{line}
use Rattle.report_forms.specs.Grown.{Adds}
use Rattle.report_forms.specs.JsonForm.{line_json, list_of}
use Rattle.report_forms.specs.Provenances.{provenance_of}
use Rattle.report_forms.proofs.PieceLaws.{wrote, adds_then, adds_none, adds_more, adds_all, adds_same, list_tokens}
use Rattle.report_forms.proofs.PieceLaws.{map-map}
use Rattle.report_forms.proofs.json_form.put_lines.Goals as goal

pub loop-line-init : goal.loop-line-init
loop-line-init c =
    adds_none (λ (x : Line). json_tokens (line_json (provenance_of c.args.from.now) (line x)))
    (wrote c.in_ok-begin_array.ensures)

pub loop-line-preserved : goal.loop-line-preserved
loop-line-preserved c =
    let item = c.line-item.result in
    let one : Line → Json = λ x. line_json (provenance_of c.args.from.now) (line x) in
    let grown =
    subst (λ (x : Line). Adds c.loop-line.out c.put_line.new.out (json_tokens (one x))) c.line-item.is
    c.in_ok-put_line.ensures in
    adds_more (λ (x : Line). json_tokens (one x)) c.args.lines.now c.loop-line.line-index item _ _ _ (begin_array ∷ [])
    c.loop-line-test.true c.loop-line.invariant grown

pub returns : goal.returns
returns c =
    let p = provenance_of c.args.from.now in
    let one : Line → Json = λ x. line_json p (line x) in
    let lines = c.args.lines.now in
    let done : c.loop-line.line-index ≡ length lines = omega arith in
    let all =
    adds_all (λ (x : Line). json_tokens (one x)) lines c.loop-line.line-index _ _ (begin_array ∷ []) done
    c.loop-line.invariant in
    adds_same (list_tokens one lines ∙ ap (λ js. json_tokens (list_of js)) (sym (map-map (line_json p) line lines)))
    (adds_then all (wrote c.in_ok-end_array.ensures))
