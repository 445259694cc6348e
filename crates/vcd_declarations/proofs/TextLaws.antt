-- The texts of tokens, and of the bytes before and after the end of one.
use Rattle.std.proofs.Common.{◌≡◌, ℕ, suc, Bool, true, false, not, cond, List, [], ◌∷◌, ◌++◌, map, take, drop}
use Rattle.std.proofs.Common.{◌-◌, length, refl, sym, ap, ◌∙◌, append_assoc, arith}
use Rattle.std.proofs.lemmas.List.{append_cancel_right, take-append-drop, take_all, length-drop}
use Rattle.vcd_reader.specs.Tokens.{DumpToken, is_separator, token_goes_on, with_byte, tokens}
use Rattle.vcd_declarations.specs.Sections.{texts}

-- a slice to the end
pub slice-rest : (bs : List ℕ) (i : ℕ) → take (length bs - i) (drop i bs) ≡ drop i bs
slice-rest bs i = take_all (length bs - i) (drop i bs) (omega (arith, length-drop i bs))

-- the texts of a list of tokens
abbrev pub text_list : List DumpToken → List (List ℕ)
text_list ts = map (λ t. t.text) ts

-- the texts with one more byte at the front of the first
abbrev with_front : ℕ → List (List ℕ) → List (List ℕ)
with_front b [] = []
with_front b (t ∷ ts) = (b ∷ t) ∷ ts

text-with_byte : (b at : ℕ) (ts : List DumpToken) → text_list (with_byte b at ts) ≡ with_front b (text_list ts)
text-with_byte b at [] = refl
text-with_byte b at (t ∷ ts) = refl

-- one byte more, where the texts of the tokens after it are known
one-more : (s g : Bool) (b at : ℕ) (ts : List DumpToken) (r : List (List ℕ)) → text_list ts ≡ r
    → text_list (cond s ts (cond g (with_byte b at ts) (record { text = b ∷ []; at = at } ∷ ts)))
    ≡ cond s r (cond g (with_front b r) ((b ∷ []) ∷ r))
one-more true g b at ts r h = h
one-more false true b at ts r h = text-with_byte b at ts ∙ ap (with_front b) h
one-more false false b at ts r h = ap (λ (x : List (List ℕ)). (b ∷ []) ∷ x) h

-- texts are the same wherever the bytes begin
pub texts-from : (at : ℕ) (bs : List ℕ) → text_list (tokens at bs) ≡ texts bs
unfolding texts tokens
texts-from at [] = refl
texts-from at (b ∷ bs) =
    one-more (is_separator b) (token_goes_on bs) b at (tokens (suc at) bs) (texts bs) (texts-from (suc at) bs)
    ∙ sym (one-more (is_separator b) (token_goes_on bs) b 0 (tokens 1 bs) (texts bs) (texts-from 1 bs))

texts-cons : (b : ℕ) (bs : List ℕ) → texts (b ∷ bs)
    ≡ cond (is_separator b) (texts bs) (cond (token_goes_on bs) (with_front b (texts bs)) ((b ∷ []) ∷ texts bs))
unfolding texts tokens
texts-cons b bs = one-more (is_separator b) (token_goes_on bs) b 0 (tokens 1 bs) (texts bs) (texts-from 1 bs)

pub texts-nil : texts [] ≡ []
unfolding texts tokens
texts-nil = refl

-- no token, no text
pub texts-none : (bs : List ℕ) (at : ℕ) → tokens at bs ≡ [] → texts bs ≡ []
texts-none bs at e = sym (texts-from at bs) ∙ ap text_list e

-- the first token, and those after it
pub texts-first : (bs cs word : List ℕ) (at from end : ℕ) → tokens at bs
    ≡ record { text = word; at = from } ∷ tokens end cs → texts bs ≡ word ∷ texts cs
texts-first bs cs word at from end e =
    sym (texts-from at bs) ∙ ap text_list e ∙ ap (λ (ts : List (List ℕ)). word ∷ ts) (texts-from end cs)

-- a text that the bytes go on with
record Begins (ts : List (List ℕ)) : Type 0 where
  first : List ℕ
  later : List (List ℕ)
  parts : ts ≡ first ∷ later

begins-front : (b : ℕ) (ts : List (List ℕ)) → Begins ts → Begins (with_front b ts)
begins-front b [] h = let e = h.parts in absurd cc
begins-front b (t ∷ ts) h = record { first = b ∷ t; later = ts; parts = refl }

begins-if : (s g : Bool) (b : ℕ) (ts : List (List ℕ)) → not s ≡ true → (g ≡ true → Begins ts)
    → Begins (cond s ts (cond g (with_front b ts) ((b ∷ []) ∷ ts)))
begins-if true g b ts h f = absurd cc
begins-if false true b ts h f = begins-front b ts (f refl)
begins-if false false b ts h f = record { first = b ∷ []; later = ts; parts = refl }

begins-texts : (bs : List ℕ) → token_goes_on bs ≡ true → Begins (texts bs)
begins-texts [] h = absurd cc
begins-texts (b ∷ bs) h =
    rw (texts-cons b bs)
    (begins-if (is_separator b) (token_goes_on bs) b (texts bs) h (λ g. begins-texts bs g))

front-append : (b : ℕ) (xs ys : List (List ℕ)) → Begins xs → with_front b (xs ++ ys) ≡ with_front b xs ++ ys
front-append b [] ys h = let e = h.parts in absurd cc
front-append b (x ∷ xs) ys h = refl

more-append : (s g : Bool) (b : ℕ) (xs ys : List (List ℕ)) → (g ≡ true → Begins xs)
    → cond s (xs ++ ys) (cond g (with_front b (xs ++ ys)) ((b ∷ []) ∷ xs ++ ys))
    ≡ cond s xs (cond g (with_front b xs) ((b ∷ []) ∷ xs)) ++ ys
more-append true g b xs ys h = refl
more-append false true b xs ys h = front-append b xs ys (h refl)
more-append false false b xs ys h = refl

goes-append : (xs ys : List ℕ) → token_goes_on ys ≡ false → token_goes_on (xs ++ ys) ≡ token_goes_on xs
goes-append [] ys h = h
goes-append (x ∷ xs) ys h = refl

-- where no token goes on, the texts before and after
texts-append : (xs ys : List ℕ) → token_goes_on ys ≡ false → texts (xs ++ ys) ≡ texts xs ++ texts ys
texts-append [] ys h = ap (λ (ts : List (List ℕ)). ts ++ texts ys) (sym texts-nil)
texts-append (x ∷ xs) ys h =
    texts-cons x (xs ++ ys)
    ∙ ap (λ (g : Bool). cond (is_separator x) (texts (xs ++ ys))
    (cond g (with_front x (texts (xs ++ ys))) ((x ∷ []) ∷ texts (xs ++ ys)))) (goes-append xs ys h)
    ∙ ap (λ (ts : List (List ℕ)). cond (is_separator x) ts
    (cond (token_goes_on xs) (with_front x ts) ((x ∷ []) ∷ ts))) (texts-append xs ys h)
    ∙ more-append (is_separator x) (token_goes_on xs) x (texts xs) (texts ys) (λ g. begins-texts xs g)
    ∙ ap (λ (ts : List (List ℕ)). ts ++ texts ys) (sym (texts-cons x xs))

-- the texts up to a byte, and from it on
pub record IsSplit (bytes : List ℕ) (at : ℕ) : Type 0 where
  pub whole : texts bytes ≡ texts (take at bytes) ++ texts (drop at bytes)

pub split-start : (bytes : List ℕ) → IsSplit bytes 0
split-start bytes = record { whole = ap (λ (ts : List (List ℕ)). ts ++ texts bytes) (sym texts-nil) }

pub split-at : (bytes : List ℕ) (at : ℕ) → token_goes_on (drop at bytes) ≡ false → IsSplit bytes at
split-at bytes at h = record {
  whole = ap texts (sym (take-append-drop at bytes)) ∙ texts-append (take at bytes) (drop at bytes) h;
}

-- one token further
pub split-next : (bytes word : List ℕ) (at end : ℕ) → IsSplit bytes at → IsSplit bytes end
    → texts (drop at bytes) ≡ word ∷ texts (drop end bytes)
    → texts (take end bytes) ≡ texts (take at bytes) ++ word ∷ []
split-next bytes word at end before after e =
    append_cancel_right (texts (take end bytes)) (texts (take at bytes) ++ word ∷ []) (texts (drop end bytes))
    (sym after.whole ∙ before.whole ∙ ap (λ (ts : List (List ℕ)). texts (take at bytes) ++ ts) e
    ∙ sym (append_assoc (texts (take at bytes)) (word ∷ []) (texts (drop end bytes))))
