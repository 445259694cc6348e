-- A JSON text that a writer made is read as its value.
use Rattle.std.proofs.Common.{◌≡◌, ℕ, ◌≤◌, List, [], ◌∷◌, Some, map, sym, ap, ◌∙◌, arith, append-nil, option_and_then}
use Rattle.json.specs.Token.{Token}
use Rattle.json.specs.Json.{Json, value, if_last, max_depth, document}
use Rattle.json.specs.Lex.{tokens}
use Rattle.json.specs.Print.{print}
use Rattle.json.specs.Tree.{json_tokens, depth, items_depth, members_depth}
use Rattle.json.specs.Value.{items_of}
use Rattle.json.proofs.Printed.Trees.{value-json_tokens}
use Rattle.report_lines.specs.Lines.{LineData, ReportData}
use Rattle.report_forms.specs.Provenances.{ProvenanceData}
use Rattle.report_forms.specs.JsonForm.{failure_json, line_json, report_json, members_with}
use Rattle.report_forms.specs.JsonForm.{refused_json, refused_members}
use Rattle.report_forms.specs.Refusals.{RefusedData}

-- the tokens of a value that are read back are that value's
pub document-tokens : (j : Json) (ts : List Token) → ts ≡ json_tokens j → tokens (print ts) ≡ ts → depth j ≤ max_depth
    → document (print ts) ≡ Some j
document-tokens j ts are read shallow =
    ap (option_and_then (λ p. if_last p.0 p.1))
    (ap (value max_depth) (read ∙ are ∙ sym (append-nil (json_tokens j))) ∙ value-json_tokens j max_depth [] shallow)

items_depth-map : {Y : Type 0} (f : Y → Json) (n : ℕ) → ((y : Y) → depth (f y) ≤ n) → (ys : List Y)
    → items_depth (items_of (map f ys)) ≤ n
items_depth-map f n each [] = omega arith
items_depth-map f n each (y ∷ ys) = omega (arith, each y, items_depth-map f n each ys)

line_depth : (p : ProvenanceData) (l : LineData) → depth (line_json p l) ≤ 3
line_depth p l = omega (arith, items_depth-map (failure_json p) 1 (λ f. omega arith) l.fails)

refused_depth : (rs : List RefusedData) → members_depth (members_with (refused_members rs)) ≤ 2
refused_depth [] = omega arith
refused_depth (r ∷ rs) = omega (arith, items_depth-map refused_json 1 (λ x. omega arith) (r ∷ rs))

pub report_depth : (p : ProvenanceData) (rs : List RefusedData) (r : ReportData)
    → depth (report_json p rs r) ≤ max_depth
report_depth p rs r = omega (arith, items_depth-map (line_json p) 3 (line_depth p) r.lines, refused_depth rs)
