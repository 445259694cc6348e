-- Words of a template, filled.
use Rattle.std.proofs.Common.{◌≡◌, ℕ, ◌<◌, suc, List, [], ◌∷◌, ◌++◌, length, get_or, Result, Ok, Err, refl, ap, ◌∙◌}
use Rattle.std.proofs.Common.{arith, append_assoc}
use Rattle.std.specs.Prelude.{◌≢◌, OnOk, is_ok, if◌then◌else◌}
use Rattle.std.proofs.lemmas.Bool.{ne_eqb}
use Rattle.axi4_rules.specs.Rules.{Filling, with_item, filled_word}

pub with_item-at : (item xs ys : List ℕ) → ((i : ℕ) → i < length xs → get_or xs i 0 ≢ 63)
    → with_item item (xs ++ 63 ∷ ys) ≡ xs ++ (item ++ ys)
with_item-at item [] ys none = refl
with_item-at item (x ∷ xs) ys none =
    rw (ne_eqb x 63 (none 0 (omega arith)))
    (ap (λ l. x ∷ l) (with_item-at item xs ys (λ i below. none (suc i) (omega arith))))

pub with_item-none : (item xs : List ℕ) → ((i : ℕ) → i < length xs → get_or xs i 0 ≢ 63) → with_item item xs ≡ xs
with_item-none item [] none = refl
with_item-none item (x ∷ xs) none =
    rw (ne_eqb x 63 (none 0 (omega arith)))
    (ap (λ l. x ∷ l) (with_item-none item xs (λ i below. none (suc i) (omega arith))))

-- the bytes after a push that may have failed
pub pushed : {T E : Type 0} (r : Result T E) (new grown old want : List ℕ) → new ≡ (if is_ok r then grown else old)
    → grown ≡ want → OnOk r (new ≡ want)
pushed (Ok x) new grown old want h e = h ∙ e
pushed (Err f) new grown old want h e = tt

pub two_pieces : (s t a b : List ℕ) → t ≡ s ++ a → t ++ b ≡ s ++ (a ++ b)
two_pieces s t a b h = ap (λ l. l ++ b) h ∙ append_assoc s a b

pub three_pieces : (s t u a b c : List ℕ) → t ≡ s ++ a → u ≡ t ++ b → u ++ c ≡ s ++ (a ++ (b ++ c))
three_pieces s t u a b c h k = ap (λ l. l ++ c) k ∙ append_assoc t b c ∙ two_pieces s t a (b ++ c) h

pub plain_word : (f : Filling) (word : List ℕ) → ((rest : List ℕ) → word ≢ 37 ∷ rest)
    → ((rest : List ℕ) → word ≢ 95 ∷ rest) → filled_word f word ≡ with_item f.item word
plain_word f [] h k = refl
plain_word f (b ∷ bs) h k =
    rw (ne_eqb b 37 (λ e. h bs (ap (λ x. x ∷ bs) e)), ne_eqb b 95 (λ e. k bs (ap (λ x. x ∷ bs) e))) refl
