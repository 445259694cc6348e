use Rattle.std.proofs.Common.{◌≡◌, ◌++◌, ◌∙◌, [], List, ℕ, ap, map}
use Rattle.json.specs.Json.{document}
use Rattle.json.specs.Print.{print}
use Rattle.json.specs.Token.{Token}
use Rattle.json.specs.Tree.{json_tokens}
use Rattle.report_lines.specs.Shown.{data_of}
use Rattle.report_forms.specs.JsonForm.{report_json}
use Rattle.report_forms.specs.Provenances.{provenance_of}
use Rattle.report_forms.specs.Refusals.{refused_of}
use Rattle.report_forms.proofs.ValueLaws.{document-tokens, report_depth}
use Rattle.report_forms.proofs.json_form.json_report.Goals as goal

pub returns-clause-text : goal.returns-clause-text
returns-clause-text c =
    let p = provenance_of c.args.from.now in
    let rs = map refused_of c.args.refused.now in
    let r = data_of c.args.report.now in
    let w = c.put_report.new.out in
    let j = report_json p rs r in
    let are : w.tokens ≡ json_tokens j =
    c.in_ok-put_report.ensures.tokens.is ∙ ap (λ (l : List Token). l ++ json_tokens j) c.new-out.ensures.tokens in
    let before : w.before ≡ [] =
    c.in_ok-put_report.ensures.before ∙ c.new-out.ensures.before ∙ c.new.ensures.items in
    c.into_inner.ensures.items ∙ ap (λ (l : List ℕ). l ++ print w.tokens) before ∙ ap print are

pub returns-clause-read_back : goal.returns-clause-read_back
returns-clause-read_back c =
    let p = provenance_of c.args.from.now in
    let rs = map refused_of c.args.refused.now in
    let r = data_of c.args.report.now in
    let w = c.put_report.new.out in
    let j = report_json p rs r in
    let are : w.tokens ≡ json_tokens j =
    c.in_ok-put_report.ensures.tokens.is ∙ ap (λ (l : List Token). l ++ json_tokens j) c.new-out.ensures.tokens in
    let before : w.before ≡ [] =
    c.in_ok-put_report.ensures.before ∙ c.new-out.ensures.before ∙ c.new.ensures.items in
    ap document (c.into_inner.ensures.items ∙ ap (λ (l : List ℕ). l ++ print w.tokens) before)
    ∙ document-tokens j w.tokens are c.into_inner.ensures.reads_back (report_depth p rs r)
