-- Tokens of a text, line by line.
use Rattle.std.proofs.Common.{◌≡◌, ℕ, ◌<◌, Bool, true, false, List, [], ◌∷◌, ◌++◌, length, refl, ap, ◌∙◌, cond, arith}
use Rattle.std.specs.Prelude.{not, ◌||◌, ◌&&◌, ◌==◌}
use Rattle.std.specs.List.{slice_split, onto_first, filter, list_any}
use Rattle.std.proofs.lemmas.Bool.{or_parts}
use Rattle.std.proofs.lemmas.List.Splits.{length-slice_split}
use Rattle.std.proofs.lemmas.List.Elements.{filter-append}
use Rattle.axi4_rules.specs.Texts.{begins_with, is_white, is_empty, without_comments, tokens}

begins-line : (a b : List ℕ) → begins_with 47 (a ++ 10 ∷ b) ≡ begins_with 47 a
begins-line [] b = refl
begins-line (x ∷ a) b = refl

one_byte : (t u : Bool) (p q r : List ℕ) (x : ℕ) → cond t (10 ∷ (p ++ r)) (cond u (q ++ r) (x ∷ (p ++ r)))
    ≡ cond t (10 ∷ p) (cond u q (x ∷ p)) ++ r
one_byte true u p q r x = refl
one_byte false true p q r x = refl
one_byte false false p q r x = refl

without_comments-line : (inside : Bool) (a b : List ℕ) → without_comments inside (a ++ 10 ∷ b)
    ≡ without_comments inside a ++ 10 ∷ without_comments false b
unfolding without_comments
without_comments-line inside [] b = refl
without_comments-line inside (x ∷ a) b =
    rw (begins-line a b, without_comments-line false a b, without_comments-line true a b)
    (one_byte (x == 10) (inside || ((x == 47) && begins_with 47 a)) (without_comments false a) (without_comments true a)
    (10 ∷ without_comments false b) x)

onto_first-append : {X : Type 0} (x : X) (parts more : List (List X)) → 0 < length parts → onto_first x (parts ++ more)
    ≡ onto_first x parts ++ more
onto_first-append x [] more some = absurd (omega arith)
onto_first-append x (part ∷ parts) more some = refl

one_part : {X : Type 0} (t : Bool) (x : X) (parts more : List (List X)) → 0 < length parts
    → cond t ([] ∷ (parts ++ more)) (onto_first x (parts ++ more)) ≡ cond t ([] ∷ parts) (onto_first x parts) ++ more
one_part true x parts more some = refl
one_part false x parts more some = onto_first-append x parts more some

split-line : (a b : List ℕ) → slice_split is_white (a ++ 10 ∷ b) ≡ slice_split is_white a ++ slice_split is_white b
split-line [] b = refl
split-line (x ∷ a) b =
    rw (split-line a b)
    (one_part (is_white x) x (slice_split is_white a) (slice_split is_white b)
    (omega (arith, length-slice_split is_white a)))

-- a line feed stands between tokens
pub tokens-line : (a b : List ℕ) → tokens (a ++ 10 ∷ b) ≡ tokens a ++ tokens b
unfolding tokens
tokens-line a b =
    ap (λ t. filter (λ w. not (is_empty w)) (slice_split is_white t)) (without_comments-line false a b)
    ∙ ap (filter (λ w. not (is_empty w))) (split-line (without_comments false a) (without_comments false b))
    ∙ filter-append (λ w. not (is_empty w)) (slice_split is_white (without_comments false a))
    (slice_split is_white (without_comments false b))

inside_only : (c : List ℕ) → list_any (λ b. b == 10) c ≡ false → without_comments true c ≡ []
unfolding without_comments
inside_only [] h = refl
inside_only (x ∷ c) h =
    let here : (x == 10) ≡ false = (or_parts (x == 10) _ h).0 in
    rw here (inside_only c (or_parts (x == 10) _ h).1)

-- a comment has no tokens
pub tokens-comment : (c : List ℕ) → list_any (λ b. b == 10) c ≡ false → tokens (47 ∷ 47 ∷ 32 ∷ c) ≡ []
unfolding tokens without_comments
tokens-comment c h = rw (inside_only c h) refl

pub tokens-nil : tokens [] ≡ []
unfolding tokens without_comments
tokens-nil = refl
