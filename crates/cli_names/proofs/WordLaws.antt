-- Words joined by dots, a byte at a time.
use Rattle.std.proofs.Common.{◌≡◌, ℕ, ◌+◌, ◌<◌, ◌≤◌, Bool, true, false, not, eqb, List, [], length, get_or, drop}
use Rattle.std.proofs.Common.{refl, ap, ◌∙◌, add-one}
use Rattle.std.proofs.Math.ListN.{drop_of_length-le}
use Rattle.std.proofs.Math.Seq.{drop-cons}
use Rattle.lexer.specs.Lexemes.{is_letter, is_word_part}
use Rattle.cli_names.specs.Spelled.{are_words}

module _ (bs : List ℕ) (i : ℕ) (lt : i < length bs) where
  -- a word has to begin
  pub words-letter : is_letter (get_or bs i 0) ≡ true → are_words true (drop i bs)
      ≡ are_words false (drop (i + 1) bs)
  unfolding are_words
  words-letter h = rw (drop-cons bs i 0 lt, add-one, h) refl

  pub words-no_letter : is_letter (get_or bs i 0) ≡ false → are_words true (drop i bs) ≡ false
  unfolding are_words
  words-no_letter h = rw (drop-cons bs i 0 lt, h) refl

  -- a word has begun
  pub words-dot : eqb (get_or bs i 0) 46 ≡ true → are_words false (drop i bs) ≡ are_words true (drop (i + 1) bs)
  unfolding are_words
  words-dot h = rw (drop-cons bs i 0 lt, add-one, h) refl

  pub words-part : eqb (get_or bs i 0) 46 ≡ false → is_word_part (get_or bs i 0) ≡ true
      → are_words false (drop i bs) ≡ are_words false (drop (i + 1) bs)
  unfolding are_words
  words-part d h = rw (drop-cons bs i 0 lt, add-one, d, h) refl

  pub words-no_part : eqb (get_or bs i 0) 46 ≡ false → is_word_part (get_or bs i 0) ≡ false
      → are_words false (drop i bs) ≡ false
  unfolding are_words
  words-no_part d h = rw (drop-cons bs i 0 lt, d, h) refl

words-nil : (begins : Bool) → are_words begins [] ≡ not begins
unfolding are_words
words-nil true = refl
words-nil false = refl

-- no byte is left
pub words-end : (bs : List ℕ) (i : ℕ) (begins : Bool) → length bs ≤ i → are_words begins (drop i bs) ≡ not begins
words-end bs i begins le = ap (are_words begins) (drop_of_length-le bs le) ∙ words-nil begins
