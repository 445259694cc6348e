-- The ends of items, as far as a loop has come.
use Rattle.std.proofs.Common.{◌≡◌, ◌++◌, ◌∷◌, [], ◌+◌, ℕ, List, true, false, drop, sym, ap, ◌∙◌, subst}
use Rattle.std.proofs.Common.{append_assoc, append-nil}
use Rattle.std.proofs.lemmas.List.{drop-drop}
use Rattle.lexer.specs.declared.token.Token.{Token}
use Rattle.diagnostics.specs.Items.{AreEnds, over, item, item_end, item_length, is_over}

-- one item more
pub ends-more : (size : ℕ) (ts : List Token) (at n e : ℕ) (ends next : List ℕ)
    → ((rest : List ℕ) → AreEnds size (drop at ts) rest → AreEnds size ts (ends ++ rest))
    → is_over (drop at ts) ≡ false → n ≡ item_length (drop at ts) → e ≡ item_end size (drop at ts)
    → next ≡ ends ++ e ∷ [] → (rest : List ℕ) → AreEnds size (drop (at + n) ts) rest
    → AreEnds size ts (next ++ rest)
ends-more size ts at n e ends next before more long end pushed rest are =
    let left : drop (at + n) ts ≡ drop (item_length (drop at ts)) (drop at ts) =
    sym (drop-drop n at ts) ∙ ap (λ (k : ℕ). drop k (drop at ts)) long in
    let behind = subst (λ (xs : List Token). AreEnds size xs rest) left are in
    let whole = before (item_end size (drop at ts) ∷ rest) (item more behind) in
    let same : ends ++ (item_end size (drop at ts) ∷ rest) ≡ next ++ rest =
    ap (λ (k : ℕ). ends ++ (k ∷ rest)) (sym end)
    ∙ sym (append_assoc ends (e ∷ []) rest)
    ∙ ap (λ (xs : List ℕ). xs ++ rest) (sym pushed) in
    subst (λ (xs : List ℕ). AreEnds size ts xs) same whole

-- no item more
pub ends-all : (size : ℕ) (ts : List Token) (at : ℕ) (ends : List ℕ)
    → ((rest : List ℕ) → AreEnds size (drop at ts) rest → AreEnds size ts (ends ++ rest))
    → is_over (drop at ts) ≡ true → AreEnds size ts ends
ends-all size ts at ends before done =
    subst (λ (xs : List ℕ). AreEnds size ts xs) (append-nil ends) (before [] (over done))
