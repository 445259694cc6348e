-- What it means to cut a text into tokens (IEEE 1800-2017, 5.2 to 5.7).
use Rattle.std.specs.Prelude.{◌≡◌, ℕ, ◌+◌, ◌<◌, ◌≤◌, List, [], ◌∷◌, ◌++◌, true, false, length, take}
use Rattle.std.specs.Prelude.{drop, Option, Some, None}
use Rattle.std.specs.List.{list_all}
use Rattle.lexer.specs.declared.piece.Shape.{Shape}
use Rattle.lexer.specs.declared.token.Kind.{Kind}
use Rattle.lexer.specs.declared.fault.LexFault.{LexFault}
use Rattle.lexer.specs.declared.fault.LexFault.TheVariants.{BadCharacter, BadNumber}
use Rattle.lexer.specs.declared.fault.LexFault.TheVariants.{UnclosedComment, Memory}
use Rattle.lexer.specs.Lexemes.{shape_of}
use Rattle.lexer.specs.Cutting.{Cut, kind_of, is_space, stays_on_line, end_at}

-- a line feed, or the end of the text
abbrev pub EndsLine : List ℕ → Type 0
EndsLine [] = Unit {0}
EndsLine (b ∷ bs) = b ≡ 10

-- two bytes, as the two characters of a comment's begin or end
abbrev pub BeginsWith : ℕ → ℕ → List ℕ → Type 0
BeginsWith a b [] = ⊥
BeginsWith a b (c ∷ []) = ⊥
BeginsWith a b (c ∷ d ∷ bs) = (c ≡ a) × (d ≡ b)

-- no */ in the bytes
abbrev pub HasNoClose : List ℕ → Type 0
HasNoClose bs = (n : ℕ) → n < length bs → BeginsWith 42 47 (drop n bs) → ⊥

-- the bytes up to the first */ of what follows, and then that
abbrev pub HasFirstClose : List ℕ → List ℕ → Type 0
HasFirstClose inside rest =
    (n : ℕ) → n < length inside → BeginsWith 42 47 (drop n (inside ++ 42 ∷ 47 ∷ rest)) → ⊥

-- White space, or a comment. A comment in the form /* .. */ ends at the first */ after its /*, so
-- /*/ does not end.
pub data IsGap : List ℕ → List ℕ → Type 0 where
  white : {b : ℕ} {rest : List ℕ} → is_space b ≡ true → IsGap (b ∷ []) rest
  to_line_end : {line rest : List ℕ} → list_all stays_on_line line ≡ true → EndsLine rest
      → IsGap (47 ∷ 47 ∷ line) rest
  to_close : (inside : List ℕ) {rest : List ℕ} → HasFirstClose inside rest
      → IsGap (47 ∷ 42 ∷ inside ++ 42 ∷ 47 ∷ []) rest

-- what a text may be, its first byte apart
abbrev pub shape_of_text : List ℕ → Option Shape
shape_of_text [] = None
shape_of_text (b ∷ bs) = shape_of b bs

-- The n bytes at the front are a token of the shape, and more of them are none.
pub record IsLongest (bytes : List ℕ) (n : ℕ) (shape : Shape) : Type 0 where
  pub some : 0 < n
  pub inside : n ≤ length bytes
  pub is : shape_of_text (take n bytes) ≡ Some shape
  pub longer : (m : ℕ) → n < m → m ≤ length bytes → shape_of_text (take m bytes) ≡ None

-- no token at the front
abbrev pub HasNoToken : List ℕ → Type 0
HasNoToken bytes = (m : ℕ) → m ≤ length bytes → shape_of_text (take m bytes) ≡ None

-- no comment and no white space at the front
pub record HasNoGap (bytes : List ℕ) : Type 0 where
  pub no_line : BeginsWith 47 47 bytes → ⊥
  pub no_comment : BeginsWith 47 42 bytes → ⊥
  pub no_space : (b : ℕ) (bs : List ℕ) → bytes ≡ b ∷ bs → is_space b ≡ false

-- The bytes, of which the first is the byte `at` of the text, are covered by the tokens and by what
-- stands between them: white space and comments. Each token is the longest at its byte, its text is
-- the slice there, and the last one is the empty end.
pub data IsCut : ℕ → List ℕ → List Cut → Type 0 where
  at_end : {at : ℕ} → IsCut at [] (end_at at ∷ [])
  over_gap : {at n : ℕ} {bytes : List ℕ} {tokens : List Cut} → 0 < n → n ≤ length bytes
      → IsGap (take n bytes) (drop n bytes) → IsCut (at + n) (drop n bytes) tokens
      → IsCut at bytes tokens
  over_token : {at n : ℕ} {shape : Shape} {kind : Kind} {bytes : List ℕ} {tokens : List Cut}
      → HasNoGap bytes → IsLongest bytes n shape → kind_of shape (take n bytes) ≡ Some kind
      → IsCut (at + n) (drop n bytes) tokens
      → IsCut at bytes (record { kind = kind; at = at; text = take n bytes } ∷ tokens)

-- The first fault of the bytes: what stands before it is covered by tokens, white space and
-- comments.
pub data IsFaulty : ℕ → List ℕ → LexFault → Type 0 where
  behind_gap : {at n : ℕ} {bytes : List ℕ} {fault : LexFault} → 0 < n → n ≤ length bytes
      → IsGap (take n bytes) (drop n bytes) → IsFaulty (at + n) (drop n bytes) fault
      → IsFaulty at bytes fault
  behind_token : {at n : ℕ} {shape : Shape} {kind : Kind} {bytes : List ℕ} {fault : LexFault}
      → HasNoGap bytes → IsLongest bytes n shape → kind_of shape (take n bytes) ≡ Some kind
      → IsFaulty (at + n) (drop n bytes) fault → IsFaulty at bytes fault
  bad_character : {at : ℕ} {bytes : List ℕ} → 0 < length bytes → HasNoGap bytes → HasNoToken bytes
      → IsFaulty at bytes (BadCharacter at)
  bad_number : {at n : ℕ} {shape : Shape} {bytes : List ℕ} → HasNoGap bytes
      → IsLongest bytes n shape → kind_of shape (take n bytes) ≡ None
      → IsFaulty at bytes (BadNumber at)
  unclosed : {at : ℕ} {bytes : List ℕ} → BeginsWith 47 42 bytes → HasNoClose (drop 2 bytes)
      → IsFaulty at bytes (UnclosedComment at)

-- A refusal: the first fault of the text, unless memory ran out.
abbrev pub IsLexFault : List ℕ → LexFault → Type 0
IsLexFault bytes Memory = Unit {0}
IsLexFault bytes (BadCharacter at) = IsFaulty 0 bytes (BadCharacter at)
IsLexFault bytes (BadNumber at) = IsFaulty 0 bytes (BadNumber at)
IsLexFault bytes (UnclosedComment at) = IsFaulty 0 bytes (UnclosedComment at)
