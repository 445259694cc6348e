-- Texts that are words, and paths of them.
use Rattle.std.proofs.Common.{◌≡◌, ◌⊎◌, inl, inr, ℕ, zero, suc, ◌/◌, ◌%◌, ◌<◌, Bool, true, false}
use Rattle.std.proofs.Common.{List, [], ◌∷◌, ◌++◌, map, Option, Some, None, refl, ap, ◌∙◌, arith}
use Rattle.std.proofs.Common.{IsTrue, take, if◌then◌else◌}
use Rattle.std.specs.Prelude.{◌||◌, ◌&&◌, ◌==◌, nat_le, bytes_eq, codes, Ok}
use Rattle.std.specs.List.{list_all, flat_map, AllByRecursion}
use Rattle.std.specs.Fmt.{decimal, digits, digits_onto, digit_glyph}
use Rattle.std.proofs.lemmas.Bool.{and_parts}
use Rattle.std.proofs.lemmas.Bool.Decides.{nat_tests}
use Rattle.lexer.specs.declared.piece.Shape.{Shape}
use Rattle.lexer.specs.declared.piece.Shape.TheVariants as shape
use Rattle.lexer.specs.declared.token.Symbol.{Symbol}
use Rattle.lexer.specs.declared.token.Symbol.TheVariants as symbol
use Rattle.lexer.specs.declared.token.Number.{Number}
use Rattle.lexer.specs.declared.token.Kind.{Kind}
use Rattle.lexer.specs.declared.token.Kind.TheVariants as kinds
use Rattle.lexer.specs.declared.token.Token.{Token}
use Rattle.lexer.specs.Lexemes.{is_letter, is_digit, is_word_part, is_system_part, size_tail}
use Rattle.lexer.specs.Lexemes.{base_tail, one_symbol, two_symbol, three_symbol, symbol_shape}
use Rattle.lexer.specs.Lexemes.{symbol_of, when, shape_of}
use Rattle.lexer.specs.Numbers.{number_of}
use Rattle.lexer.specs.Cutting.{Cut, cut_of, number_kind, kind_of, tokens_of}
use Rattle.lexer.specs.Covering.{shape_of_text, IsCut, at_end, over_gap, over_token}
use Rattle.lexer.proofs.LongestLaws.{tells}
use Rattle.lexer.proofs.CoveringLaws.{tokens_of-covered}
use Rattle.parser_grammar.specs.declared.terminal.Terminal.{Terminal}
use Rattle.parser_grammar.specs.declared.terminal.Terminal.TheVariants as terminals
use Rattle.parser_grammar.specs.Terminals.{kind_terminal, symbol_terminal, system_terminal, names, is_name}
use Rattle.parser_grammar.specs.Terminals.{is_word_kind, is_word}
use Rattle.types_names.specs.Scopes.{path_text}
use Rattle.bytecode_programs.specs.Texts as texts
use Rattle.bytecode_programs.specs.Texts.{is_first, is_later, goes_on, begins}

-- Bytes of words, as the lexer and as programs have them.
letter_first : (a b c : Bool) → IsTrue (a || b || c) → IsTrue (b || a || c)
letter_first true true c h = refl
letter_first true false c h = refl
letter_first false true c h = refl
letter_first false false c h = h

later_in : (a b c d e : Bool) → IsTrue ((a || b || c) || d || e) → IsTrue ((b || a || c) || d || e)
later_in true true c d e h = refl
later_in true false c d e h = refl
later_in false true c d e h = refl
later_in false false c d e h = h

first_byte : (b : ℕ) → IsTrue (is_letter b) → IsTrue (is_first b)
first_byte b h =
    letter_first (nat_le 97 b && nat_le b 122) (nat_le 65 b && nat_le b 90) (b == 95) h

later_byte : (b : ℕ) → IsTrue (is_word_part b) → IsTrue (is_later b)
later_byte b h =
    later_in (nat_le 97 b && nat_le b 122) (nat_le 65 b && nat_le b 90) (b == 95)
    (is_digit b) (b == 36) h

no_dot : (b : ℕ) → IsTrue (is_word_part b) → (b == 46) ≡ false
no_dot b h = grind (arith, nat_tests)

both_true : (a b : Bool) → IsTrue a → IsTrue b → IsTrue (a && b)
both_true true b g h = h
both_true false b g h = g

goes_word : (bs : List ℕ) → IsTrue (list_all is_word_part bs) → IsTrue (goes_on false bs)
unfolding goes_on
goes_word [] h = refl
goes_word (b ∷ bs) h =
    let p = and_parts (is_word_part b) (list_all is_word_part bs) h in
    rw (no_dot b p.0)
    (both_true (is_later b) (goes_on false bs) (later_byte b p.0) (goes_word bs p.1))

-- A text that the lexer takes as a word.
letter_or_not : (b : ℕ) (bs : List ℕ) → (is_letter b ≡ true) ⊎ (is_letter b ≡ false) →
    shape_of b bs ≡ Some shape.Word → IsTrue (texts.is_word (b ∷ bs))
unfolding shape_of begins
letter_or_not b bs (inl is) h =
    both_true (is_first b) (goes_on false bs) (first_byte b is)
    (goes_word bs (when_word (list_all is_word_part bs) (rw is at h)))
  where
    when_word : (all : Bool) → when all shape.Word ≡ Some shape.Word → IsTrue all
    when_word true h = refl
    when_word false h = absurd cc
letter_or_not b bs (inr isnt) h =
    absurd (no_word (b == 36) (is_digit b) (b == 39) (list_all is_system_part bs)
    (size_tail bs) (base_tail bs) (rw isnt at h))
  where
    no_symbol : (o : Option Symbol) → symbol_shape o ≡ Some shape.Word → ⊥
    no_symbol None h = absurd cc
    no_symbol (Some s) h = absurd cc

    not_symbol : (a : ℕ) (bs : List ℕ) → symbol_of a bs ≡ Some shape.Word → ⊥
    not_symbol a [] h = no_symbol (one_symbol a) h
    not_symbol a (b ∷ []) h = no_symbol (two_symbol a b) h
    not_symbol a (b ∷ c ∷ []) h = no_symbol (three_symbol a b c) h
    not_symbol a (b ∷ c ∷ d ∷ more) h = absurd cc

    no_word : (dollar digit quote all sized based : Bool) →
        (if dollar then when all shape.System
        else (if digit then when sized shape.Number
        else (if quote then when based shape.Number
        else symbol_of b bs))) ≡ Some shape.Word → ⊥
    no_word true digit quote true sized based h = absurd cc
    no_word true digit quote false sized based h = absurd cc
    no_word false true quote all true based h = absurd cc
    no_word false true quote all false based h = absurd cc
    no_word false false true all sized true h = absurd cc
    no_word false false true all sized false h = absurd cc
    no_word false false false all sized based h = not_symbol b bs h

pub shape_word : (text : List ℕ) → shape_of_text text ≡ Some shape.Word →
    IsTrue (texts.is_word text)
shape_word [] h = absurd cc
shape_word (b ∷ bs) h = letter_or_not b bs (tells (is_letter b)) h

number_no_word : (o : Option Number) → number_kind o ≡ Some kinds.Word → ⊥
number_no_word None h = absurd cc
number_no_word (Some n) h = absurd cc

kind_word : (s : Shape) (text : List ℕ) → kind_of s text ≡ Some kinds.Word → s ≡ shape.Word
kind_word shape.Word text h = refl
kind_word shape.System text h = absurd cc
kind_word shape.Number text h = absurd (number_no_word (number_of text) h)
kind_word (shape.Symbol s) text h = absurd cc

-- what the lexer takes as a word is one
abbrev pub IsWorded : Cut → Type 0
IsWorded c = IsTrue (is_word_kind c.kind) → IsTrue (texts.is_word c.text)

word_kind : (k : Kind) → IsTrue (is_word_kind k) → k ≡ kinds.Word
word_kind kinds.Word h = refl
word_kind kinds.System h = absurd cc
word_kind (kinds.Number n) h = absurd cc
word_kind (kinds.Symbol s) h = absurd cc
word_kind kinds.End h = absurd cc

token_worded : (s : Shape) (k : Kind) (text : List ℕ) → shape_of_text text ≡ Some s →
    kind_of s text ≡ Some k → IsTrue (is_word_kind k) → IsTrue (texts.is_word text)
token_worded s k text is kind h =
    let word : s ≡ shape.Word = kind_word s text (kind ∙ ap Some (word_kind k h)) in
    shape_word text (is ∙ ap Some word)

all_worded : {place : ℕ} {bytes : List ℕ} {cuts : List Cut} → IsCut place bytes cuts →
    AllByRecursion IsWorded cuts
all_worded at_end = (λ h. absurd cc, tt)
all_worded (over_gap some inside gap rest) = all_worded rest
all_worded (over_token {n = n} {shape = s} {kind = k} {bytes = bytes} gap longest kind rest) =
    (token_worded s k (take n bytes) longest.is kind, all_worded rest)

-- The tokens of a text that are words have texts that are words.
abbrev pub AreWorded : List Token → Type 0
AreWorded tokens =
    AllByRecursion (λ t. IsTrue (is_word t) → IsTrue (texts.is_word t.text.now)) tokens

worded_tokens : (tokens : List Token) → AllByRecursion IsWorded (map cut_of tokens) →
    AreWorded tokens
unfolding is_word
worded_tokens [] h = tt
worded_tokens (t ∷ ts) h = (h.0, worded_tokens ts h.1)

pub tokens_worded : (text : List ℕ) (tokens : List Token) →
    tokens_of text ≡ Ok (map cut_of tokens) → AreWorded tokens
tokens_worded text tokens h =
    worded_tokens tokens (all_worded (tokens_of-covered text (map cut_of tokens) h))

-- A name is a word.
neither_names : (b : Bool) (x y : Terminal) → names x ≡ false → names y ≡ false →
    names (if b then x else y) ≡ false
neither_names true x y h g = h
neither_names false x y h g = g

system_no_name : (text : List ℕ) → names (system_terminal text) ≡ false
unfolding system_terminal
system_no_name text =
    neither_names (bytes_eq text (codes "$past")) terminals.Past _ refl
    (neither_names (bytes_eq text (codes "$rose")) terminals.Rose _ refl
    (neither_names (bytes_eq text (codes "$fell")) terminals.Fell _ refl
    (neither_names (bytes_eq text (codes "$stable")) terminals.Stable _ refl
    (neither_names (bytes_eq text (codes "$changed")) terminals.Changed _ refl
    (neither_names (bytes_eq text (codes "$onehot")) terminals.OneHot _ refl
    (neither_names (bytes_eq text (codes "$onehot0")) terminals.OneHot0 terminals.ForeignSystem
    refl refl))))))

symbol_no_name : (s : Symbol) → names (symbol_terminal s) ≡ false
symbol_no_name symbol.OpenRound = refl
symbol_no_name _ = refl

name_kind : (k : Kind) (text : List ℕ) → IsTrue (names (kind_terminal k text)) →
    IsTrue (is_word_kind k)
name_kind kinds.Word text h = refl
name_kind kinds.System text h = absurd (let e = system_no_name text in cc)
name_kind (kinds.Number n) text h = absurd cc
name_kind (kinds.Symbol s) text h = absurd (let e = symbol_no_name s in cc)
name_kind kinds.End text h = absurd cc

pub name_word : (t : Token) → IsTrue (is_name t) → IsTrue (is_word t)
unfolding is_name is_word
name_word t h = name_kind t.kind t.text.now h

-- Words, joined by dots.
no_dots : (b : ℕ) (more : Bool) → IsTrue (if b == 46 then false else is_later b && more) →
    ((b == 46) ≡ false) × IsTrue (is_later b && more)
no_dots b more h = by (b == 46) refl h
  where
    by : (dot : Bool) → (b == 46) ≡ dot → IsTrue (if dot then false else is_later b && more) →
        ((b == 46) ≡ false) × IsTrue (is_later b && more)
    by true is h = absurd cc
    by false is h = (is, h)

goes_with : (bs rest : List ℕ) → IsTrue (goes_on false bs) → IsTrue (goes_on true rest) →
    IsTrue (goes_on true (bs ++ rest))
unfolding goes_on
goes_with [] rest h g = g
goes_with (b ∷ bs) rest h g =
    let p = no_dots b (goes_on false bs) h in
    let q = and_parts (is_later b) (goes_on false bs) p.1 in
    rw p.0 (both_true (is_later b) (goes_on true (bs ++ rest)) q.0 (goes_with bs rest q.1 g))

begins_with : (bs rest : List ℕ) → IsTrue (texts.is_word bs) → IsTrue (goes_on true rest) →
    IsTrue (begins true (bs ++ rest))
unfolding begins
begins_with [] rest h g = absurd cc
begins_with (b ∷ bs) rest h g =
    let p = and_parts (is_first b) (goes_on false bs) h in
    both_true (is_first b) (goes_on true (bs ++ rest)) p.0 (goes_with bs rest p.1 g)

-- each of these has a word as its text
abbrev pub AreWords : List Token → Type 0
AreWords ws = AllByRecursion (λ w. IsTrue (texts.is_word w.text.now)) ws

members_go : (ws : List Token) → AreWords ws →
    IsTrue (goes_on true (flat_map (λ (w : Token). codes "." ++ w.text.now) ws))
unfolding goes_on
members_go [] h = refl
members_go (w ∷ ws) h =
    begins_with w.text.now (flat_map (λ (w : Token). codes "." ++ w.text.now) ws) h.0
    (members_go ws h.1)

pub words_path : (w : Token) (ws : List Token) → IsTrue (texts.is_word w.text.now) → AreWords ws →
    IsTrue (texts.is_path (path_text (w ∷ ws)))
words_path w ws first more =
    begins_with w.text.now (flat_map (λ (w : Token). codes "." ++ w.text.now) ws) first
    (members_go ws more)

-- Names that are made.
glyph_later : (d : ℕ) → d < 10 → IsTrue (is_later (digit_glyph false d))
glyph_later d h = grind (arith, nat_tests)

glyph_no_dot : (d : ℕ) → d < 10 → (digit_glyph false d == 46) ≡ false
glyph_no_dot d h = grind (arith, nat_tests)

with_digit : (n : ℕ) (more : List ℕ) → IsTrue (goes_on false more) →
    IsTrue (goes_on false (digit_glyph false (n % 10) ∷ more))
unfolding goes_on
with_digit n more h =
    let low : n % 10 < 10 = omega arith in
    rw (glyph_no_dot (n % 10) low)
    (both_true (is_later (digit_glyph false (n % 10))) (goes_on false more)
    (glyph_later (n % 10) low) h)

either_goes : (last : Bool) (one more : List ℕ) → IsTrue (goes_on false one) →
    IsTrue (goes_on false more) → IsTrue (goes_on false (if last then one else more))
either_goes true one more h g = h
either_goes false one more h g = g

digits_go : (k n : ℕ) (more : List ℕ) → IsTrue (goes_on false more) →
    IsTrue (goes_on false (digits_onto k 10 false n more))
digits_go zero n more h = h
digits_go (suc k) n more h =
    let one = digit_glyph false (n % 10) ∷ more in
    let first = with_digit n more h in
    either_goes (n / 10 == 0) one (digits_onto k 10 false (n / 10) one) first
    (digits_go k (n / 10) one first)

decimal_goes : (n : ℕ) → IsTrue (goes_on false (decimal n))
unfolding digits goes_on
decimal_goes n = digits_go 64 n [] refl

pub made_word : (n : ℕ) → IsTrue (texts.is_word (codes "assert_" ++ decimal n))
unfolding begins
made_word n = decimal_goes n
