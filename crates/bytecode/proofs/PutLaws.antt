-- Bytes that are put after others, one field after another.
use Rattle.std.proofs.Common.{◌≡◌, ℕ, ◌+◌, ◌<◌, ◌≤◌, List, [], ◌∷◌, ◌++◌, length, get_or, take, sym, ap, ◌∙◌}
use Rattle.std.proofs.Common.{append_assoc}
use Rattle.std.specs.List.{flat_map}
use Rattle.std.proofs.lemmas.Grind.{flat_map-append}
use Rattle.std.proofs.lemmas.List.{append-nil, take_all, take_more}

-- what was put before, and then the rest
pub put_then : (old a mid b new : List ℕ) → mid ≡ old ++ a → new ≡ mid ++ b → new ≡ old ++ (a ++ b)
put_then old a mid b new e f = f ∙ ap (λ t. t ++ b) e ∙ append_assoc old a b

flat_map-more : {A : Type 0} (f : A → List ℕ) (xs : List A) (i : ℕ) (d : A) → i < length xs
    → flat_map f (take (i + 1) xs) ≡ flat_map f (take i xs) ++ f (get_or xs i d)
flat_map-more f xs i d below =
    ap (flat_map f) (take_more xs i d below)
    ∙ flat_map-append f (take i xs) (get_or xs i d ∷ [])
    ∙ ap (λ t. flat_map f (take i xs) ++ t) (append-nil (f (get_or xs i d)))

-- one more of a list, after a front
pub put_next : {A : Type 0} (f : A → List ℕ) (xs : List A) (i : ℕ) (d : A) (old front out new : List ℕ)
    → i < length xs → out ≡ old ++ (front ++ flat_map f (take i xs)) → new ≡ out ++ f (get_or xs i d)
    → new ≡ old ++ (front ++ flat_map f (take (i + 1) xs))
put_next f xs i d old front out new below e is =
    let x = f (get_or xs i d) in
    is ∙ ap (λ t. t ++ x) e ∙ append_assoc old (front ++ flat_map f (take i xs)) x
    ∙ ap (λ t. old ++ t)
    (append_assoc front (flat_map f (take i xs)) x ∙ ap (λ t. front ++ t) (sym (flat_map-more f xs i d below)))

-- all of a list
pub put_all : {A : Type 0} (f : A → List ℕ) (xs : List A) (i : ℕ) (old front out : List ℕ) → length xs ≤ i
    → out ≡ old ++ (front ++ flat_map f (take i xs)) → out ≡ old ++ (front ++ flat_map f xs)
put_all {A} f xs i old front out over e =
    e ∙ ap (λ (t : List A). old ++ (front ++ flat_map f t)) (take_all i xs over)
