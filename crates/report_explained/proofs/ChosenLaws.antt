-- Choices, line by line.
use Rattle.std.proofs.Common.{◌≡◌, ◌∙◌, ◌++◌, ◌+◌, ◌<◌, ◌≤◌, ℕ, suc, List, ◌∷◌, length, get_or, drop, sym, ap}
use Rattle.std.proofs.Common.{append_assoc, append-nil, add-one}
use Rattle.std.proofs.Math.Seq.{drop-cons}
use Rattle.std.proofs.lemmas.List.{drop_all}
use Rattle.report_lines.specs.declared.line.Line.{Line}
use Rattle.report_explained.specs.declared.choices.Choice.{Choice}
use Rattle.report_explained.specs.declared.selection.Wanted.{Wanted}
use Rattle.report_explained.specs.Chosen.{chosen_in, chosen_from}

-- one more line
pub chosen_more : (w : Wanted) (lines : List Line) (place : ℕ) (l : Line) (old new all : List Choice)
    → place < length lines → l ≡ get_or lines place l → new ≡ old ++ chosen_in w place l
    → old ++ chosen_from w place (drop place lines) ≡ all
    → new ++ chosen_from w (place + 1) (drop (place + 1) lines) ≡ all
unfolding chosen_from
chosen_more w lines place l old new all below is pushed before =
    let front : drop place lines ≡ l ∷ drop (suc place) lines =
    drop-cons lines place l below ∙ ap (λ (x : Line). x ∷ drop (suc place) lines) (sym is) in
    ap (λ (k : ℕ). new ++ chosen_from w k (drop k lines)) (add-one place)
    ∙ ap (λ (cs : List Choice). cs ++ chosen_from w (suc place) (drop (suc place) lines)) pushed
    ∙ append_assoc old (chosen_in w place l) (chosen_from w (suc place) (drop (suc place) lines))
    ∙ ap (λ (ls : List Line). old ++ chosen_from w place ls) (sym front) ∙ before

-- no line is left
pub chosen_all : (w : Wanted) (lines : List Line) (place : ℕ) (new all : List Choice) → length lines ≤ place
    → new ++ chosen_from w place (drop place lines) ≡ all → new ≡ all
unfolding chosen_from
chosen_all w lines place new all end before =
    sym (append-nil new) ∙ ap (λ (ls : List Line). new ++ chosen_from w place ls) (sym (drop_all place lines end))
    ∙ before
