-- A text, cut into its tokens. `Covering` says what this means; here it is computed.
use Rattle.std.specs.Prelude.{◌≡◌, ℕ, zero, suc, ◌+◌, ◌-◌, ◌<◌, ◌≤◌, slice_index, List, [], ◌∷◌}
use Rattle.std.specs.Prelude.{Bool, false, not, ◌||◌, ◌&&◌, ◌==◌, length, take, drop, Option, Some}
use Rattle.std.specs.Prelude.{None, option_map, Result, Ok, Err, if◌then◌else◌}
use Rattle.lexer.specs.declared.piece.Shape.{Shape}
use Rattle.lexer.specs.declared.piece.Shape.TheVariants as shape
use Rattle.lexer.specs.declared.token.Number.{Number}
use Rattle.lexer.specs.declared.token.Kind.{Kind}
use Rattle.lexer.specs.declared.token.Kind.TheVariants as kinds
use Rattle.lexer.specs.declared.token.Token.{Token}
use Rattle.lexer.specs.declared.scan.Next.{Next}
use Rattle.lexer.specs.declared.scan.Next.TheVariants.{Gap, Lexeme, Unclosed, Stray}
use Rattle.lexer.specs.declared.fault.LexFault.{LexFault}
use Rattle.lexer.specs.declared.fault.LexFault.TheVariants.{BadCharacter, BadNumber}
use Rattle.lexer.specs.declared.fault.LexFault.TheVariants.{UnclosedComment, Memory}
use Rattle.lexer.specs.Lexemes.{longest_lexeme}
use Rattle.lexer.specs.Numbers.{number_of}
use Rattle.lexer.specs.Runs.{run_length}

-- a token's text as bytes, the byte at which it begins, and what it is
pub record Cut : Type 0 where
  pub kind : Kind
  pub at : ℕ
  pub text : List ℕ

abbrev pub cut_of : Token → Cut
cut_of t = record { kind = t.kind; at = t.at; text = t.text.now }

abbrev pub number_kind : Option Number → Option Kind
number_kind None = None
number_kind (Some n) = Some (kinds.Number n)

-- what a text of the shape is, if it is no bad number
abbrev pub kind_of : Shape → List ℕ → Option Kind
kind_of shape.Word text = Some kinds.Word
kind_of shape.System text = Some kinds.System
kind_of shape.Number text = number_kind (number_of text)
kind_of (shape.Symbol s) text = Some (kinds.Symbol s)

-- space, tab, carriage return and line feed
abbrev pub is_space : ℕ → Bool
is_space b = (b == 32) || (b == 9) || (b == 13) || (b == 10)

abbrev pub stays_on_line : ℕ → Bool
stays_on_line b = not (b == 10)

abbrev pub begins_with : ℕ → List ℕ → Bool
begins_with c [] = false
begins_with c (b ∷ bs) = b == c

-- how many bytes there are up to and with the first */
unfoldable pub comment_end : List ℕ → Option ℕ
comment_end [] = None
comment_end (b ∷ bs) =
    if (b == 42) && begins_with 47 bs then Some 2 else option_map suc (comment_end bs)

abbrev pub comment_gap : Option ℕ → Next
comment_gap None = Unclosed
comment_gap (Some n) = Gap (2 + n)

abbrev pub next_lexeme : Option (ℕ × Shape) → Next
next_lexeme None = Stray
next_lexeme (Some r) = Lexeme r.0 r.1

-- what comes next, where the byte b stands, and after it bs
unfoldable pub next_token : ℕ → List ℕ → Next
next_token b bs =
    if is_space b then Gap 1
    else (if (b == 47) && begins_with 47 bs then Gap (suc (run_length stays_on_line bs))
    else (if (b == 47) && begins_with 42 bs then comment_gap (comment_end (drop 1 bs))
    else next_lexeme (longest_lexeme b bs)))

abbrev pub with_cut : Cut → Result (List Cut) LexFault → Result (List Cut) LexFault
with_cut c (Ok cs) = Ok (c ∷ cs)
with_cut c (Err f) = Err f

abbrev pub with_token : Option Kind → ℕ → List ℕ → Result (List Cut) LexFault
    → Result (List Cut) LexFault
with_token None at text r = Err (BadNumber at)
with_token (Some k) at text r = with_cut (record { kind = k; at = at; text = text }) r

abbrev pub cut_after : Next → ℕ → List ℕ → (ℕ → Result (List Cut) LexFault)
    → Result (List Cut) LexFault
cut_after (Gap n) at bytes go = go n
cut_after (Lexeme n s) at bytes go = with_token (kind_of s (take n bytes)) at (take n bytes) (go n)
cut_after Unclosed at bytes go = Err (UnclosedComment at)
cut_after Stray at bytes go = Err (BadCharacter at)

-- What comes next ends inside the bytes, and a token between characters.
abbrev pub StaysInside : List ℕ → ℕ → Next → Type 0
StaysInside bytes at (Gap n) = (0 < n) × (at + n ≤ length bytes)
StaysInside bytes at (Lexeme n s) =
    (0 < n) × (at + n ≤ length bytes) × (slice_index bytes at < 128)
    × (slice_index bytes (at + n - 1) < 128)
StaysInside bytes at Unclosed = Unit {0}
StaysInside bytes at Stray = Unit {0}

-- the last token: empty, where the text ends
abbrev pub end_at : ℕ → Cut
end_at at = record { kind = kinds.End; at = at; text = [] }

-- The tokens of the bytes, the first of which is the byte `at` of the text. The number bounds the
-- turns; the count of the bytes is enough.
unfoldable pub cuts : ℕ → ℕ → List ℕ → Result (List Cut) LexFault
cuts turns at [] = Ok (end_at at ∷ [])
cuts zero at (b ∷ bs) = Err Memory
cuts (suc turns) at (b ∷ bs) =
    cut_after (next_token b bs) at (b ∷ bs) (λ n. cuts turns (at + n) (drop n (b ∷ bs)))

unfoldable pub tokens_of : List ℕ → Result (List Cut) LexFault
tokens_of bytes = cuts (length bytes) 0 bytes

-- What a function returned, seen by view, is what reading gives, unless memory ran out.
abbrev pub CutFails : {Y : Type 0} → LexFault → Result Y LexFault → Type 0
CutFails Memory read = Unit {0}
CutFails (BadCharacter at) read = read ≡ Err (BadCharacter at)
CutFails (BadNumber at) read = read ≡ Err (BadNumber at)
CutFails (UnclosedComment at) read = read ≡ Err (UnclosedComment at)

abbrev pub GivesCuts : {X Y : Type 0} → (X → Y) → Result X LexFault → Result Y LexFault → Type 0
GivesCuts view (Ok x) read = read ≡ Ok (view x)
GivesCuts view (Err e) read = CutFails e read
