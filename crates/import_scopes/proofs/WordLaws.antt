-- The words of a file, one after another.
use Rattle.std.proofs.Common.{◌≡◌, ℕ, suc, ◌+◌, ◌<◌, ◌≤◌, true, false, List, [], ◌∷◌, ◌++◌, length, drop, get_or, refl}
use Rattle.std.proofs.Common.{sym, ap, ◌∙◌, add-one, append_assoc, append-nil, drop-cons}
use Rattle.std.proofs.Math.ListN.{drop_of_length-le}
use Rattle.import_tokens.specs.declared.token.Token.{Token}
use Rattle.import_scopes.specs.Words.{is_begun, word_places}

first_word : (at : ℕ) (token : Token) (rest : List Token) → is_begun (token ∷ rest) ≡ true
    → word_places at (token ∷ rest) ≡ at ∷ word_places (suc at) rest
unfolding word_places
first_word at token rest h = rw h refl

first_other : (at : ℕ) (token : Token) (rest : List Token) → is_begun (token ∷ rest) ≡ false
    → word_places at (token ∷ rest) ≡ word_places (suc at) rest
unfolding word_places
first_other at token rest h = rw h refl

module _ (tokens : List Token) (place : ℕ) (d : Token) (lt : place < length tokens) where
  cell : drop place tokens ≡ get_or tokens place d ∷ drop (suc place) tokens
  cell = drop-cons tokens place d lt

  pub word_here : is_begun (drop place tokens) ≡ true → word_places place (drop place tokens)
      ≡ place ∷ word_places (place + 1) (drop (place + 1) tokens)
  word_here h =
      ap (word_places place) cell
      ∙ first_word place (get_or tokens place d) (drop (suc place) tokens)
      (sym (ap (λ (ts : List Token). is_begun ts) cell) ∙ h)
      ∙ ap (λ (n : ℕ). place ∷ word_places n (drop n tokens)) (sym (add-one place))

  pub no_word_here : is_begun (drop place tokens) ≡ false → word_places place (drop place tokens)
      ≡ word_places (place + 1) (drop (place + 1) tokens)
  no_word_here h =
      ap (word_places place) cell
      ∙ first_other place (get_or tokens place d) (drop (suc place) tokens)
      (sym (ap (λ (ts : List Token). is_begun ts) cell) ∙ h)
      ∙ ap (λ (n : ℕ). word_places n (drop n tokens)) (sym (add-one place))

pub word_more : (tokens : List Token) (words after : List ℕ) (place : ℕ) (rest all : List ℕ)
    → all ≡ words ++ word_places place (drop place tokens) → word_places place (drop place tokens) ≡ place ∷ rest
    → after ≡ words ++ place ∷ [] → all ≡ after ++ rest
word_more tokens words after place rest all so_far here e =
    so_far ∙ ap (λ (ws : List ℕ). words ++ ws) here ∙ sym (append_assoc words (place ∷ []) rest)
    ∙ ap (λ (ws : List ℕ). ws ++ rest) (sym e)

pub words_all : (tokens : List Token) (words : List ℕ) (place : ℕ) (all : List ℕ) → length tokens ≤ place
    → all ≡ words ++ word_places place (drop place tokens) → words ≡ all
unfolding word_places
words_all tokens words place all le so_far =
    sym (so_far ∙ ap (λ (ts : List Token). words ++ word_places place ts) (drop_of_length-le tokens le)
    ∙ append-nil words)
