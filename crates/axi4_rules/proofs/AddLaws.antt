-- Lines that are added one after another.
use Rattle.std.proofs.Common.{◌≡◌, ℕ, ◌+◌, ◌<◌, ◌≤◌, List, [], ◌∷◌, ◌++◌, length, get_or, take, map, refl, sym, ap, ◌∙◌}
use Rattle.std.proofs.Common.{add-one, append_assoc, append-nil, subst}
use Rattle.std.proofs.Math.Seq.{take-suc}
use Rattle.std.proofs.lemmas.Grind.{flat_map-append}
use Rattle.std.proofs.lemmas.List.{take_all, map-append}
use Rattle.axi4_rules.specs.Texts.{tokens}
use Rattle.axi4_rules.specs.Rules.{Row, Filling, tokens_of}
use Rattle.axi4_rules.specs.Wholes.{Adds}

pub and_then : {s t u a b : List (List ℕ)} → Adds s t a → Adds t u b → Adds s u (a ++ b)
and_then {s} {t} {u} {a} {b} p q = record {
  is =
      q.is ∙ ap (λ l. l ++ tokens_of b) p.is ∙ append_assoc s (tokens_of a) (tokens_of b)
      ∙ ap (λ l. s ++ l) (sym (flat_map-append tokens a b));
}

pub nothing : {s t : List (List ℕ)} → t ≡ s → Adds s t []
nothing {s} {t} h = record { is = h ∙ sym (append-nil s) }

pub one_line : {s t : List (List ℕ)} (l : List ℕ) → t ≡ s ++ tokens l → Adds s t (l ∷ [])
one_line {s} {t} l h = record { is = h ∙ ap (λ m. s ++ m) (sym (append-nil (tokens l))) }

pub none_yet : {X : Type 0} (f : X → List ℕ) (s : List (List ℕ)) (xs : List X) → Adds s s (map f (take 0 xs))
none_yet f s xs = nothing refl

pub one_more : {X : Type 0} (f : X → List ℕ) (xs : List X) (i : ℕ) (d : X) (s t u : List (List ℕ)) → i < length xs
    → Adds s t (map f (take i xs)) → Adds t u (f (get_or xs i d) ∷ []) → Adds s u (map f (take (i + 1) xs))
one_more f xs i d s t u below p q =
    subst (Adds s u)
    (sym (map-append f (take i xs) (get_or xs i d ∷ []))
    ∙ ap (map f) (sym (take-suc xs i d below) ∙ ap (λ n. take n xs) (sym (add-one i))))
    (and_then p q)

pub all_done : {X : Type 0} (f : X → List ℕ) (xs : List X) (i : ℕ) (s t : List (List ℕ)) → length xs ≤ i
    → Adds s t (map f (take i xs)) → Adds s t (map f xs)
all_done f xs i s t over p = subst (λ l. Adds s t (map f l)) (take_all i xs over) p

pub map-map : {X Y : Type 0} (f : Y → List ℕ) (v : X → Y) (xs : List X) → map f (map v xs) ≡ map (λ x. f (v x)) xs
map-map f v [] = refl
map-map f v (x ∷ xs) = ap (λ l. f (v x) ∷ l) (map-map f v xs)

-- the same rows, filled with the same item
pub same_item : {s t : List (List ℕ)} (line : List ℕ → Row → List ℕ) (i j : List ℕ) (rs : List Row) → i ≡ j
    → Adds s t (map (line i) rs) → Adds s t (map (line j) rs)
same_item {s} {t} line i j rs h p = subst (λ x. Adds s t (map (line x) rs)) h p

pub id_more : (line : ℕ → List ℕ) (xs ys : List ℕ) (i d : ℕ) (s t u : List (List ℕ)) → ys ≡ xs → i < length ys
    → Adds s t (map line (take i xs)) → Adds t u (line (get_or ys i d) ∷ []) → Adds s u (map line (take (i + 1) xs))
id_more line xs ys i d s t u h below p q =
    one_more line xs i d s t u (subst (λ zs. i < length zs) h below) p
    (subst (λ zs. Adds t u (line (get_or zs i d) ∷ [])) h q)

pub same_filled : {s t : List (List ℕ)} (line : Filling → Row → List ℕ) (f g : Filling) (rs : List Row) → f ≡ g
    → Adds s t (map (line f) rs) → Adds s t (map (line g) rs)
same_filled {s} {t} line f g rs h p = subst (λ x. Adds s t (map (line x) rs)) h p

pub from_nothing : {s t ls : List (List ℕ)} → s ≡ [] → Adds s t ls → t ≡ tokens_of ls
from_nothing {s} {t} {ls} h p = p.is ∙ ap (λ l. l ++ tokens_of ls) h
