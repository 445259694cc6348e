use Rattle.std.proofs.Common.{◌≡◌, ◌∙◌, ◌+◌, ℕ, List, length, ap, ap₂}
use Rattle.std.specs.Prelude.{◌++◌, codes}
use Rattle.std.specs.Fmt.{decimal}
use Rattle.diagnostics.specs.Places.{column_number}
use Rattle.diagnostics.specs.Told.{told_line, line_text, refusal_text}
use Rattle.diagnostics.proofs.Pieces.{and_then, told_as}
use Rattle.diagnostics.proofs.PlaceLaws.{length-front}
use Rattle.diagnostics.proofs.refusal_text.push_refusal.Goals as goal

pub returns : goal.returns
unfolding refusal_text
returns c =
    let text = c.args.text.now in
    let at = c.args.at in
    let front = ap (λ (bs : List ℕ). length bs) c.front_of-front.ensures ∙ length-front text at in
    let column : length c.front_of-front.result.now + 1 ≡ column_number text at =
    ap (λ (n : ℕ). n + 1) front in
    let place =
    told_as c.in_ok-push_place.ensures
    (ap₂ (λ (l k : ℕ). decimal l ++ codes ":" ++ decimal k) c.requires.number column) in
    let line =
    told_as c.in_ok-push_line.ensures
    (ap₂ (λ (l f : List ℕ). told_line l f)
    (c.line_at.ensures ∙ ap (λ (n : ℕ). line_text text n) c.requires.start)
    c.front_of-front.ensures) in
    and_then
    (and_then
    (and_then
    (and_then
    (and_then
    (and_then
    (and_then c.in_ok-push_text.ensures c.in_ok-push_text-2.ensures)
    place)
    c.in_ok-push_text-3.ensures)
    c.in_ok-push_text-4.ensures)
    c.in_ok-push_text-5.ensures)
    line)
    c.in_ok-push_text-6.ensures
