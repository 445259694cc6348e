-- The pieces of a text, joined.
use Rattle.std.proofs.Common.{◌≡◌, ◌++◌, ◌<◌, ◌+◌, ◌∷◌, [], ℕ, List, length, take, refl, sym, ap, ◌∙◌, append_assoc}
use Rattle.std.proofs.Common.{append-nil, add-one}
use Rattle.std.specs.Prelude.{slice_index_or, map}
use Rattle.std.specs.List.{flat_map}
use Rattle.std.proofs.Math.Seq.{take-suc, take-length}
use Rattle.std.proofs.lemmas.Grind.{flat_map-append}
use Rattle.report_lines.specs.Texts.{Grows}

-- one piece and then another
pub and_then : {s t u a b : List ℕ} → Grows s t a → Grows t u b → Grows s u (a ++ b)
and_then {s} {t} {u} {a} {b} p q = record { is = q.is ∙ ap (λ l. l ++ b) p.is ∙ append_assoc s a b }

-- no piece
pub and_none : {X : Type 0} {s t a : List ℕ} (f : X → List ℕ) → Grows s t a → Grows s t (a ++ flat_map f [])
and_none {X} {s} {t} {a} f p = record { is = p.is ∙ ap (λ l. s ++ l) (sym (append-nil a)) }

flat_map_last : {X : Type 0} (f : X → List ℕ) (xs : List X) (x : X) → flat_map f (xs ++ x ∷ []) ≡ flat_map f xs ++ f x
flat_map_last f xs x = flat_map-append f xs (x ∷ []) ∙ ap (λ l. flat_map f xs ++ l) (append-nil (f x))

-- one more element's piece
pub piece_more : {X : Type 0} (f : X → List ℕ) (xs : List X) (i : ℕ) (d : X) (s t u a : List ℕ) → i < length xs
    → Grows s t (a ++ flat_map f (take i xs)) → Grows t u (f (slice_index_or xs i d))
    → Grows s u (a ++ flat_map f (take (i + 1) xs))
piece_more f xs i d s t u a below p q =
    let both = and_then p q in
    record {
      is = both.is
          ∙ ap (λ l. s ++ l)
          (append_assoc a _ _
          ∙ ap (λ l. a ++ l) (sym (flat_map_last f (take i xs) (slice_index_or xs i d))
          ∙ ap (flat_map f) (sym (take-suc xs i d below) ∙ ap (λ n. take n xs) (sym (add-one i)))));
    }

-- all elements' pieces
pub pieces_all : {X : Type 0} (f : X → List ℕ) (xs : List X) (i : ℕ) (s t a : List ℕ) → i ≡ length xs
    → Grows s t (a ++ flat_map f (take i xs)) → Grows s t (a ++ flat_map f xs)
pieces_all f xs i s t a is p =
    record {
      is = p.is ∙ ap (λ n. s ++ (a ++ flat_map f (take n xs))) is
          ∙ ap (λ l. s ++ (a ++ flat_map f l)) (take-length xs);
    }

-- the pieces of a list's images
pub flat_map-map : {X Y : Type 0} (f : Y → List ℕ) (g : X → Y) (xs : List X) → flat_map f (map g xs)
    ≡ flat_map (λ x. f (g x)) xs
flat_map-map f g [] = refl
flat_map-map f g (x ∷ xs) = ap (λ l. f (g x) ++ l) (flat_map-map f g xs)

-- from an empty text on
pub from_empty : {s t a : List ℕ} → s ≡ [] → Grows s t a → Grows [] t a
from_empty {s} {t} {a} e p = record { is = p.is ∙ ap (λ l. l ++ a) e }
