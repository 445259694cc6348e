-- The pieces of a list that grows, joined.
use Rattle.std.proofs.Common.{◌≡◌, ◌++◌, ◌<◌, ◌+◌, ◌∷◌, [], ℕ, List, length, take, refl, sym, ap, ◌∙◌, append_assoc}
use Rattle.std.proofs.Common.{append-nil, add-one, Ok}
use Rattle.std.specs.Prelude.{slice_index_or, map}
use Rattle.std.specs.List.{flat_map}
use Rattle.std.proofs.Math.Seq.{take-suc, take-length}
use Rattle.json.specs.Json.{Json}
use Rattle.json.specs.Token.{Token, begin_array, end_array}
use Rattle.json.specs.Tree.{json_tokens, items_tokens}
use Rattle.json.specs.Value.{items_of}
use Rattle.report_forms.specs.JsonForm.{list_of}
use Rattle.json.specs.Written.{Written, Writes}
use Rattle.report_forms.specs.Grown.{Grows, Adds}

-- one piece and then another
pub and_then : {X : Type 0} {s t u a b : List X} → Grows s t a → Grows t u b → Grows s u (a ++ b)
and_then {X} {s} {t} {u} {a} {b} p q = record { is = q.is ∙ ap (λ l. l ++ b) p.is ∙ append_assoc s a b }

-- no piece
pub and_none : {Y X : Type 0} {s t a : List X} (f : Y → List X) → Grows s t a → Grows s t (a ++ flat_map f [])
and_none {Y} {X} {s} {t} {a} f p = record { is = p.is ∙ ap (λ l. s ++ l) (sym (append-nil a)) }

pub flat_map-append : {Y X : Type 0} (f : Y → List X) (xs ys : List Y) → flat_map f (xs ++ ys)
    ≡ flat_map f xs ++ flat_map f ys
flat_map-append f [] ys = refl
flat_map-append f (x ∷ xs) ys =
    ap (λ l. f x ++ l) (flat_map-append f xs ys) ∙ sym (append_assoc (f x) (flat_map f xs) (flat_map f ys))

flat_map_last : {Y X : Type 0} (f : Y → List X) (xs : List Y) (x : Y) → flat_map f (xs ++ x ∷ []) ≡ flat_map f xs ++ f x
flat_map_last f xs x = flat_map-append f xs (x ∷ []) ∙ ap (λ l. flat_map f xs ++ l) (append-nil (f x))

-- one more element's piece
pub piece_more : {Y X : Type 0} (f : Y → List X) (xs : List Y) (i : ℕ) (d : Y) (s t u a : List X) → i < length xs
    → Grows s t (a ++ flat_map f (take i xs)) → Grows t u (f (slice_index_or xs i d))
    → Grows s u (a ++ flat_map f (take (i + 1) xs))
piece_more f xs i d s t u a below p q =
    let both = and_then p q in
    record {
      is = both.is
          ∙ ap (λ l. s ++ l)
          (append_assoc a _ _
          ∙ ap (λ l. a ++ l) (sym (flat_map_last f (take i xs) (slice_index_or xs i d))
          ∙ ap (flat_map f) (sym (take-suc xs i d below) ∙ ap (λ n. take n xs) (sym (add-one i)))));
    }

-- all elements' pieces
pub pieces_all : {Y X : Type 0} (f : Y → List X) (xs : List Y) (i : ℕ) (s t a : List X) → i ≡ length xs
    → Grows s t (a ++ flat_map f (take i xs)) → Grows s t (a ++ flat_map f xs)
pieces_all f xs i s t a is p =
    record {
      is = p.is ∙ ap (λ n. s ++ (a ++ flat_map f (take n xs))) is
          ∙ ap (λ l. s ++ (a ++ flat_map f l)) (take-length xs);
    }

-- the pieces of a list's images
pub flat_map-map : {Y Z X : Type 0} (f : Z → List X) (g : Y → Z) (xs : List Y) → flat_map f (map g xs)
    ≡ flat_map (λ x. f (g x)) xs
flat_map-map f g [] = refl
flat_map-map f g (x ∷ xs) = ap (λ l. f (g x) ++ l) (flat_map-map f g xs)

-- from an empty list on
pub from_empty : {X : Type 0} {s t a : List X} → s ≡ [] → Grows s t a → Grows [] t a
from_empty {X} {s} {t} {a} e p = record { is = p.is ∙ ap (λ l. l ++ a) e }

-- a token that was written
pub wrote : {E : Type 0} {old new : Written} {t : Token} → Writes {E = E} (Ok tt) old new t → Adds old new (t ∷ [])
wrote w = record { tokens = record { is = w.ok }; before = w.room.0 }

-- tokens, and then others
pub adds_then : {s t u : Written} {a b : List Token} → Adds s t a → Adds t u b → Adds s u (a ++ b)
adds_then p q = record { tokens = and_then p.tokens q.tokens; before = q.before ∙ p.before }

pub adds_none : {Y : Type 0} {s t : Written} {a : List Token} (f : Y → List Token) → Adds s t a
    → Adds s t (a ++ flat_map f [])
adds_none f p = record { tokens = and_none f p.tokens; before = p.before }

pub adds_more : {Y : Type 0} (f : Y → List Token) (xs : List Y) (i : ℕ) (d : Y) (s t u : Written) (a : List Token)
    → i < length xs → Adds s t (a ++ flat_map f (take i xs)) → Adds t u (f (slice_index_or xs i d))
    → Adds s u (a ++ flat_map f (take (i + 1) xs))
adds_more f xs i d s t u a below p q =
    record {
      tokens = piece_more f xs i d s.tokens t.tokens u.tokens a below p.tokens q.tokens;
      before = q.before ∙ p.before;
    }

pub adds_all : {Y : Type 0} (f : Y → List Token) (xs : List Y) (i : ℕ) (s t : Written) (a : List Token)
    → i ≡ length xs → Adds s t (a ++ flat_map f (take i xs)) → Adds s t (a ++ flat_map f xs)
adds_all f xs i s t a is p =
    record { tokens = pieces_all f xs i s.tokens t.tokens a is p.tokens; before = p.before }

-- the same tokens, spelled in another way
pub adds_same : {s t : Written} {a b : List Token} → a ≡ b → Adds s t a → Adds s t b
adds_same {s} {t} e p = record { tokens = record { is = p.tokens.is ∙ ap (λ l. s.tokens ++ l) e }; before = p.before }

-- a list of values
pub list_tokens : {Y : Type 0} (f : Y → Json) (xs : List Y) → begin_array ∷ flat_map (λ x. json_tokens (f x)) xs
    ++ end_array ∷ [] ≡ json_tokens (list_of (map f xs))
list_tokens {Y} f xs = ap (λ l. begin_array ∷ l) (go xs)
  where
    go : (ys : List Y) → flat_map (λ x. json_tokens (f x)) ys ++ end_array ∷ [] ≡ items_tokens (items_of (map f ys))
    go [] = refl
    go (y ∷ ys) =
        append_assoc (json_tokens (f y)) (flat_map (λ x. json_tokens (f x)) ys) (end_array ∷ [])
        ∙ ap (λ l. json_tokens (f y) ++ l) (go ys)

pub map-map : {X Y Z : Type 0} (f : Y → Z) (g : X → Y) (xs : List X) → map f (map g xs) ≡ map (λ x. f (g x)) xs
map-map f g [] = refl
map-map f g (x ∷ xs) = ap (λ l. f (g x) ∷ l) (map-map f g xs)
