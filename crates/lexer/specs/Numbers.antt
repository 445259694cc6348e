-- What a number's text is worth (IEEE 1800-2017, 5.7.1): [size] "'" base digits, or a plain
-- decimal.
use Rattle.std.specs.Prelude.{ℕ, ◌+◌, ◌-◌, ◌*◌, ◌^◌, ◌%◌, List, [], ◌∷◌, ◌==◌, ◌&&◌, nat_le, nat_lt}
use Rattle.std.specs.Prelude.{take, drop, Option, Some, None, option_and_then, option_map}
use Rattle.std.specs.Prelude.{if◌then◌else◌}
use Rattle.lexer.specs.declared.token.Base.{Base}
use Rattle.lexer.specs.declared.token.Base.TheVariants.{Binary, Octal, Decimal, Hexadecimal}
use Rattle.lexer.specs.declared.token.Number.{Number}
use Rattle.lexer.specs.Lexemes.{is_digit, is_digit_part, base_of}
use Rattle.lexer.specs.Runs.{run_length}

abbrev pub width_or : Option ℕ → ℕ
width_or None = 32
width_or (Some n) = n

-- the width of a number: its size, or 32
abbrev pub number_width : Number → ℕ
number_width n = width_or n.size

abbrev pub radix_of : Base → ℕ
radix_of Binary = 2
radix_of Octal = 8
radix_of Decimal = 10
radix_of Hexadecimal = 16

-- the value of a digit; x, z and ? have none
unfoldable pub digit_value : ℕ → Option ℕ
digit_value b =
    if is_digit b then Some (b - 48)
    else (if nat_le 97 b && nat_le b 102 then Some (b - 87)
    else (if nat_le 65 b && nat_le b 70 then Some (b - 55)
    else None))

-- The value of the digits after others that are worth v. Underscores count for nothing.
unfoldable pub value_from : ℕ → ℕ → List ℕ → Option ℕ
value_from radix v [] = Some v
value_from radix v (b ∷ bs) =
    if b == 95 then value_from radix v bs
    else option_and_then (λ d. value_from radix (radix * v + d) bs) (digit_value b)

abbrev pub if_fits : ℕ → ℕ → Option ℕ
if_fits width v = if nat_lt v (2 ^ width) then Some v else None

-- the value of the digits, below 2 to the width
unfoldable pub value_within : ℕ → ℕ → List ℕ → Option ℕ
value_within width radix bs = option_and_then (if_fits width) (value_from radix 0 bs)

-- a size, 1 to 128
abbrev pub if_size : ℕ → Option (Option ℕ)
if_size n = if nat_le 1 n && nat_le n 128 then Some (Some n) else None

unfoldable pub size_before : List ℕ → Option (Option ℕ)
size_before [] = Some None
size_before (b ∷ bs) = option_and_then if_size (value_within 128 10 (b ∷ bs))

-- The value of based digits: of 32 bits where no size is written; else of 128 at most, and cut to
-- the size on the left.
abbrev pub sized_value : Option ℕ → ℕ → List ℕ → Option ℕ
sized_value size radix [] = None
sized_value None radix (b ∷ bs) = value_within 32 radix (b ∷ bs)
sized_value (Some n) radix (b ∷ bs) = option_map (λ v. v % 2 ^ n) (value_within 128 radix (b ∷ bs))

abbrev pub plain_number : ℕ → Number
plain_number v = record { size = None; base = None; value = v }

abbrev pub based_number : Option ℕ → Base → ℕ → Number
based_number size base v = record { size = size; base = Some base; value = v }

abbrev pub number_in_base : Option ℕ → List ℕ → Option Base → Option Number
number_in_base size digits None = None
number_in_base size digits (Some base) =
    option_map (based_number size base) (sized_value size (radix_of base) digits)

-- by what stands before the quote, and what from the quote on
abbrev pub number_by : List ℕ → List ℕ → Option Number
number_by digits [] = option_map plain_number (value_within 32 10 digits)
number_by size (quote ∷ []) = None
number_by size (quote ∷ b ∷ digits) =
    option_and_then (λ s. number_in_base s digits (base_of b)) (size_before size)

-- None where the number is an L2: a digit without a value, too large a value or size, no digit.
unfoldable pub number_of : List ℕ → Option Number
number_of text =
    number_by (take (run_length is_digit_part text) text)
    (drop (run_length is_digit_part text) text)
