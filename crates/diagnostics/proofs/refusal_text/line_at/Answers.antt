use Rattle.std.proofs.Common.{◌∙◌, ℕ, List, ap, drop, refl}
use Rattle.std.proofs.lemmas.Iterator.Consumers.{nth_from_yields_List}
use Rattle.std.proofs.lemmas.Iterator.Splits.{YieldsList-from_lines}
use denote.Bor.{Bor}
use Rattle.diagnostics.proofs.Pieces.{now-unwrap_or}
use Rattle.diagnostics.proofs.refusal_text.line_at.Goals as goal

pub returns : goal.returns
returns c =
    let rest = drop c.args.start c.args.text.now in
    let found =
    nth_from_yields_List c.nth.result c.nth.new.self 0 c.nth.ensures.ran
    (YieldsList-from_lines rest (c.lines.ensures.rest ∙ c.range_from.ensures.value)) in
    ap (λ (b : Bor (List ℕ)). b.now) c.unwrap_or.ensures ∙ now-unwrap_or c.nth.result _ _ found refl
