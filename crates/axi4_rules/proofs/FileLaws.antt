-- The tables of ports, added one after another.
use Rattle.std.proofs.Common.{◌≡◌, ℕ, ◌+◌, ◌<◌, ◌≤◌, List, [], ◌∷◌, ◌++◌, length, get_or, take, map, refl, sym, ap, ◌∙◌}
use Rattle.std.proofs.Common.{add-one, append-nil, subst}
use Rattle.std.specs.List.{flat_map}
use Rattle.std.proofs.Math.Seq.{take-suc}
use Rattle.std.proofs.lemmas.Grind.{flat_map-append}
use Rattle.std.proofs.lemmas.List.{take_all}
use Rattle.axi4_rules.specs.Wholes.{Adds}
use Rattle.axi4_rules.proofs.AddLaws.{and_then, nothing}

pub flat_map-map : {X Y A : Type 0} (f : Y → List A) (v : X → Y) (xs : List X) → flat_map f (map v xs)
    ≡ flat_map (λ x. f (v x)) xs
flat_map-map f v [] = refl
flat_map-map f v (x ∷ xs) = ap (λ l. f (v x) ++ l) (flat_map-map f v xs)

pub no_table : {X : Type 0} (f : X → List (List ℕ)) (s : List (List ℕ)) (xs : List X)
    → Adds s s (flat_map f (take 0 xs))
no_table f s xs = nothing refl

pub table_more : {X : Type 0} (f : X → List (List ℕ)) (xs : List X) (i : ℕ) (d : X) (s t u : List (List ℕ))
    → i < length xs → Adds s t (flat_map f (take i xs)) → Adds t u (f (get_or xs i d))
    → Adds s u (flat_map f (take (i + 1) xs))
table_more f xs i d s t u below p q =
    subst (Adds s u)
    (ap (λ l. flat_map f (take i xs) ++ l) (sym (append-nil (f (get_or xs i d))))
    ∙ sym (flat_map-append f (take i xs) (get_or xs i d ∷ []))
    ∙ ap (flat_map f) (sym (take-suc xs i d below) ∙ ap (λ n. take n xs) (sym (add-one i))))
    (and_then p q)

pub all_tables : {X : Type 0} (f : X → List (List ℕ)) (xs : List X) (i : ℕ) (s t : List (List ℕ)) → length xs ≤ i
    → Adds s t (flat_map f (take i xs)) → Adds s t (flat_map f xs)
all_tables f xs i s t over p = subst (λ l. Adds s t (flat_map f l)) (take_all i xs over) p
