-- How many bytes at the front pass a test.
use Rattle.std.specs.Prelude.{ℕ, zero, suc, ◌==◌, Option, Some, None, List, [], ◌∷◌, Bool}
use Rattle.std.specs.Prelude.{if◌then◌else◌}
use Rattle.lexer.specs.declared.piece.Part.{Part}
use Rattle.lexer.specs.declared.token.Base.{Base}
use Rattle.lexer.specs.declared.piece.Part.TheVariants as part
use Rattle.lexer.specs.Lexemes.{is_word_part, is_system_part, is_digit_part, is_based_digit}
use Rattle.lexer.specs.Lexemes.{is_based_part, base_of}

unfoldable pub run_length : (ℕ → Bool) → List ℕ → ℕ
run_length p [] = 0
run_length p (b ∷ bs) = if p b then suc (run_length p bs) else 0

abbrev pub is_part : Part → ℕ → Bool
is_part part.Word b = is_word_part b
is_part part.System b = is_system_part b
is_part part.Digit b = is_digit_part b
is_part (part.Based base) b = is_based_part base b

-- how many bytes of a number stand after its base letter, that letter among them
abbrev pub digits_len : Option Base → List ℕ → ℕ
digits_len None bs = 0
digits_len (Some base) [] = 1
digits_len (Some base) (b ∷ bs) =
    if is_based_digit base b then suc (suc (run_length (is_based_part base) bs)) else 1

-- and after its quote
unfoldable pub base_len : List ℕ → ℕ
base_len [] = 0
base_len (b ∷ bs) = digits_len (base_of b) bs

-- a quote counts where a base follows it
abbrev pub with_quote : ℕ → ℕ
with_quote zero = zero
with_quote (suc n) = suc (suc n)

-- and after its first digit
unfoldable pub size_len : List ℕ → ℕ
size_len [] = 0
size_len (b ∷ bs) =
    if is_part part.Digit b then suc (size_len bs)
    else (if b == 39 then with_quote (base_len bs) else 0)
