-- Where a number ends, in the steps of the code.
use Rattle.std.proofs.Common.{◌≡◌, ℕ, zero, suc, ◌+◌, ◌<◌, ◌≤◌, true, false, List, ◌∷◌, length, get_or, drop, Option}
use Rattle.std.proofs.Common.{Some, None, refl, sym, ap, ◌∙◌, arith, add-one}
use Rattle.std.proofs.Math.Seq.{drop-cons}
use Rattle.std.proofs.Math.ListN.{drop_of_length-le}
use Rattle.std.proofs.lemmas.Bool.{eq-eqb, ne_eqb}
use Rattle.lexer.specs.declared.token.Base.{Base}
use Rattle.lexer.specs.declared.piece.Shape.TheVariants as shape
use Rattle.lexer.specs.Lexemes.{is_digit_part, is_based_digit, is_based_part, base_of, longest_lexeme}
use Rattle.lexer.specs.Runs.{run_length, digits_len, base_len, with_quote, size_len}
use Rattle.lexer.proofs.LongestLaws.{quote_len, size_len-run, longest-quoted}
use Rattle.lexer.proofs.CutLaws.{drop-drop}

pub behind : (bytes : List ℕ) (i : ℕ) → i < length bytes → drop i bytes ≡ get_or bytes i 0 ∷ drop (i + 1) bytes
behind bytes i lt = rw add-one (drop-cons bytes i 0 lt)

module _ (bytes : List ℕ) (i : ℕ) where
  pub base_len-end : i ≡ length bytes → base_len (drop i bytes) ≡ 0
  unfolding base_len
  base_len-end e = let le : length bytes ≤ i = omega arith in rw (drop_of_length-le bytes {i = i} le) refl

  module _ (lt : i < length bytes) where
    by_base : (o : Option Base) → o ≡ base_of (get_or bytes i 0) → base_len (drop i bytes)
        ≡ digits_len o (drop (i + 1) bytes)
    unfolding base_len
    by_base o e = ap base_len (behind bytes i lt) ∙ ap (λ (o : Option Base). digits_len o (drop (i + 1) bytes)) (sym e)

    pub base_len-other : None ≡ base_of (get_or bytes i 0) → base_len (drop i bytes) ≡ 0
    base_len-other e = by_base None e

    module _ (base : Base) (e : Some base ≡ base_of (get_or bytes i 0)) where
      pub base_len-letter : i + 1 ≡ length bytes → base_len (drop i bytes) ≡ 1
      base_len-letter last = by_base (Some base) e ∙ ap (digits_len (Some base)) (drop_of_length-le bytes (omega arith))

      second : i + 1 < length bytes → drop (i + 1) bytes ≡ get_or bytes (i + 1) 0 ∷ drop (i + 1 + 1) bytes
      second lt' = behind bytes (i + 1) lt'

      pub base_len-no_digit : i + 1 < length bytes → false ≡ is_based_digit base (get_or bytes (i + 1) 0)
          → base_len (drop i bytes) ≡ 1
      base_len-no_digit lt' h = by_base (Some base) e ∙ ap (digits_len (Some base)) (second lt') ∙ rw (← h) refl

      pub base_len-digits : i + 1 < length bytes → true ≡ is_based_digit base (get_or bytes (i + 1) 0)
          → base_len (drop i bytes) ≡ suc (suc (run_length (is_based_part base) (drop (i + 1 + 1) bytes)))
      base_len-digits lt' h = by_base (Some base) e ∙ ap (digits_len (Some base)) (second lt') ∙ rw (← h) refl

module _ (bytes : List ℕ) (start q : ℕ) (at : q ≡ start + run_length is_digit_part (drop start bytes)) where
  by_quote : size_len (drop start bytes) ≡ run_length is_digit_part (drop start bytes) + quote_len (drop q bytes)
  by_quote =
      size_len-run (drop start bytes) ∙ ap (λ (r : List ℕ). run_length is_digit_part (drop start bytes) + quote_len r)
      (drop-drop bytes start (run_length is_digit_part (drop start bytes)) ∙ ap (λ (i : ℕ). drop i bytes) (sym at))

  pub size_len-end : q ≡ length bytes → q ≡ start + size_len (drop start bytes)
  size_len-end e =
      let none : quote_len (drop q bytes) ≡ 0 = ap quote_len (drop_of_length-le bytes (omega arith)) in
      omega (arith, by_quote)

  module _ (lt : q < length bytes) where
    pub size_len-other : (get_or bytes q 0 ≡ 39 → ⊥) → q ≡ start + size_len (drop start bytes)
    size_len-other ne =
        let none : quote_len (drop q bytes) ≡ 0 = ap quote_len (behind bytes q lt) ∙ rw (ne_eqb _ 39 ne) refl in
        omega (arith, by_quote)

    pub size_len-quote : (n : ℕ) → get_or bytes q 0 ≡ 39 → base_len (drop (q + 1) bytes) ≡ n
        → q + with_quote n ≡ start + size_len (drop start bytes)
    size_len-quote n e h =
        let some : quote_len (drop q bytes) ≡ with_quote n =
        ap quote_len (behind bytes q lt) ∙ rw (eq-eqb _ 39 e, h) refl in
        omega (arith, by_quote)

pub with_quote-suc : (n : ℕ) → 0 < n → with_quote n ≡ suc n
with_quote-suc zero h = absurd (omega arith)
with_quote-suc (suc n) h = refl

pub quoted-some : (b n : ℕ) (bs : List ℕ) → b ≡ 39 → base_len bs ≡ n → 0 < n
    → longest_lexeme b bs ≡ Some (suc n, shape.Number)
quoted-some b zero bs e h some = absurd (omega arith)
quoted-some b (suc n) bs e h some = longest-quoted b bs n e h
