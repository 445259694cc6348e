-- What a text of its own is: a word, a system name, a number or a symbol.
use Rattle.std.specs.Prelude.{ℕ, zero, suc, List, [], ◌∷◌, Bool, true, false, ◌||◌, ◌&&◌, ◌==◌}
use Rattle.std.specs.Prelude.{nat_le, length, take, Option, Some, None, if◌then◌else◌}
use Rattle.std.specs.List.{list_all}
use Rattle.lexer.specs.declared.token.Symbol.{Symbol}
use Rattle.lexer.specs.declared.token.Symbol.TheVariants.{OpenRound, CloseRound, OpenBrace}
use Rattle.lexer.specs.declared.token.Symbol.TheVariants.{CloseBrace, OpenSquare, CloseSquare}
use Rattle.lexer.specs.declared.token.Symbol.TheVariants.{Comma, Semicolon, Colon, Question, AtSign}
use Rattle.lexer.specs.declared.token.Symbol.TheVariants.{Dot, Hash, Plus, Minus, Less, Greater}
use Rattle.lexer.specs.declared.token.Symbol.TheVariants.{And, Or, Xor, Tilde, Bang, Assign, Star}
use Rattle.lexer.specs.declared.token.Symbol.TheVariants.{Slash, Percent, OpenRepeat, Delay}
use Rattle.lexer.specs.declared.token.Symbol.TheVariants.{ShiftLeft, ShiftRight, LessEqual}
use Rattle.lexer.specs.declared.token.Symbol.TheVariants.{GreaterEqual, Equal, NotEqual, AndAnd}
use Rattle.lexer.specs.declared.token.Symbol.TheVariants.{OrOr, Nand, Nor, Xnor, XnorCaret}
use Rattle.lexer.specs.declared.token.Symbol.TheVariants.{Overlapped, Following}
use Rattle.lexer.specs.declared.token.Base.{Base}
use Rattle.lexer.specs.declared.token.Base.TheVariants.{Binary, Octal, Decimal, Hexadecimal}
use Rattle.lexer.specs.declared.piece.Shape.{Shape}
use Rattle.lexer.specs.declared.piece.Shape.TheVariants as shape

abbrev pub is_digit : ℕ → Bool
is_digit b = nat_le 48 b && nat_le b 57

abbrev pub is_letter : ℕ → Bool
is_letter b = (nat_le 97 b && nat_le b 122) || (nat_le 65 b && nat_le b 90) || (b == 95)

-- of a word, after its first letter
abbrev pub is_word_part : ℕ → Bool
is_word_part b = is_letter b || is_digit b || (b == 36)

-- of a system name, after $
abbrev pub is_system_part : ℕ → Bool
is_system_part b = is_letter b || is_digit b

-- of a decimal or a size, after its first digit
abbrev pub is_digit_part : ℕ → Bool
is_digit_part b = is_digit b || (b == 95)

-- the letters of the bases, in either case
abbrev pub base_of : ℕ → Option Base
base_of b =
    if (b == 98) || (b == 66) then Some Binary
    else (if (b == 111) || (b == 79) then Some Octal
    else (if (b == 100) || (b == 68) then Some Decimal
    else (if (b == 104) || (b == 72) then Some Hexadecimal
    else None)))

-- the digits that have a value in a base
abbrev pub is_valued_digit : Base → ℕ → Bool
is_valued_digit Binary b = nat_le 48 b && nat_le b 49
is_valued_digit Octal b = nat_le 48 b && nat_le b 55
is_valued_digit Decimal b = is_digit b
is_valued_digit Hexadecimal b =
    is_digit b || (nat_le 97 b && nat_le b 102) || (nat_le 65 b && nat_le b 70)

-- x, z and ?, digits of every base, which have no value here
abbrev pub is_unknown_digit : ℕ → Bool
is_unknown_digit b = (b == 120) || (b == 88) || (b == 122) || (b == 90) || (b == 63)

unfoldable pub is_based_digit : Base → ℕ → Bool
is_based_digit base b = is_valued_digit base b || is_unknown_digit b

-- of the digits of a base, after the first
unfoldable pub is_based_part : Base → ℕ → Bool
is_based_part base b = is_based_digit base b || (b == 95)

-- digits ::= digit (digit | "_")*, after a base letter; none at all is a number without a value
abbrev pub digits_tail : Option Base → List ℕ → Bool
digits_tail None bs = false
digits_tail (Some base) [] = true
digits_tail (Some base) (b ∷ bs) = is_based_digit base b && list_all (is_based_part base) bs

-- what may follow a quote: base_letter digits
abbrev pub base_tail : List ℕ → Bool
base_tail [] = false
base_tail (b ∷ bs) = digits_tail (base_of b) bs

-- what may follow a number's first digit: (digit | "_")* ["'" base_letter digits]
unfoldable pub size_tail : List ℕ → Bool
size_tail [] = true
size_tail (b ∷ bs) = if is_digit_part b then size_tail bs else (b == 39) && base_tail bs

abbrev pub symbol_of_one : ℕ → Option Symbol
symbol_of_one a =
    if a == 40 then Some OpenRound
    else (if a == 41 then Some CloseRound
    else (if a == 123 then Some OpenBrace
    else (if a == 125 then Some CloseBrace
    else (if a == 91 then Some OpenSquare
    else (if a == 93 then Some CloseSquare
    else (if a == 44 then Some Comma
    else (if a == 59 then Some Semicolon
    else (if a == 58 then Some Colon
    else (if a == 63 then Some Question
    else (if a == 64 then Some AtSign
    else (if a == 46 then Some Dot
    else (if a == 35 then Some Hash
    else (if a == 43 then Some Plus
    else (if a == 45 then Some Minus
    else (if a == 60 then Some Less
    else (if a == 62 then Some Greater
    else (if a == 38 then Some And
    else (if a == 124 then Some Or
    else (if a == 94 then Some Xor
    else (if a == 126 then Some Tilde
    else (if a == 33 then Some Bang
    else (if a == 61 then Some Assign
    else (if a == 42 then Some Star
    else (if a == 47 then Some Slash
    else (if a == 37 then Some Percent
    else (None))))))))))))))))))))))))))

abbrev pub symbol_of_two : ℕ → ℕ → Option Symbol
symbol_of_two a b =
    if (a == 91) && (b == 42) then Some OpenRepeat
    else (if (a == 35) && (b == 35) then Some Delay
    else (if (a == 60) && (b == 60) then Some ShiftLeft
    else (if (a == 62) && (b == 62) then Some ShiftRight
    else (if (a == 60) && (b == 61) then Some LessEqual
    else (if (a == 62) && (b == 61) then Some GreaterEqual
    else (if (a == 61) && (b == 61) then Some Equal
    else (if (a == 33) && (b == 61) then Some NotEqual
    else (if (a == 38) && (b == 38) then Some AndAnd
    else (if (a == 124) && (b == 124) then Some OrOr
    else (if (a == 126) && (b == 38) then Some Nand
    else (if (a == 126) && (b == 124) then Some Nor
    else (if (a == 126) && (b == 94) then Some Xnor
    else (if (a == 94) && (b == 126) then Some XnorCaret
    else (None))))))))))))))

abbrev pub symbol_of_three : ℕ → ℕ → ℕ → Option Symbol
symbol_of_three a b c =
    if (a == 124) && (b == 45) && (c == 62) then Some Overlapped
    else (if (a == 124) && (b == 61) && (c == 62) then Some Following
    else None)

unfoldable pub one_symbol : ℕ → Option Symbol
one_symbol a = symbol_of_one a

unfoldable pub two_symbol : ℕ → ℕ → Option Symbol
two_symbol a b = symbol_of_two a b

unfoldable pub three_symbol : ℕ → ℕ → ℕ → Option Symbol
three_symbol a b c = symbol_of_three a b c

abbrev pub symbol_shape : Option Symbol → Option Shape
symbol_shape None = None
symbol_shape (Some s) = Some (shape.Symbol s)

abbrev pub symbol_of : ℕ → List ℕ → Option Shape
symbol_of a [] = symbol_shape (one_symbol a)
symbol_of a (b ∷ []) = symbol_shape (two_symbol a b)
symbol_of a (b ∷ c ∷ []) = symbol_shape (three_symbol a b c)
symbol_of a (b ∷ c ∷ d ∷ more) = None

abbrev pub when : Bool → Shape → Option Shape
when true s = Some s
when false s = None

-- what a text is that begins with the byte
unfoldable pub shape_of : ℕ → List ℕ → Option Shape
shape_of b bs =
    if is_letter b then when (list_all is_word_part bs) shape.Word
    else (if b == 36 then when (list_all is_system_part bs) shape.System
    else (if is_digit b then when (size_tail bs) shape.Number
    else (if b == 39 then when (base_tail bs) shape.Number
    else symbol_of b bs)))

abbrev pub or_shorter : Option Shape → ℕ → Option (ℕ × Shape) → Option (ℕ × Shape)
or_shorter None n shorter = shorter
or_shorter (Some s) n shorter = Some (n, s)

-- The longest text that is something: the byte and at most n of those after it. Its length, and
-- what it is.
unfoldable pub longest_from : ℕ → List ℕ → ℕ → Option (ℕ × Shape)
longest_from b bs zero = or_shorter (shape_of b []) 1 None
longest_from b bs (suc n) =
    or_shorter (shape_of b (take (suc n) bs)) (suc (suc n)) (longest_from b bs n)

unfoldable pub longest_lexeme : ℕ → List ℕ → Option (ℕ × Shape)
longest_lexeme b bs = longest_from b bs (length bs)
