-- Which paths a rule can spell: path = NAME ("." word)*, as parser_grammar has it. A NAME is a word
-- that stands for nothing of the language.
use Rattle.std.specs.Prelude.{ℕ, List, [], ◌∷◌, Bool, true, false, not, ◌&&◌, ◌==◌}
use Rattle.std.specs.Prelude.{if◌then◌else◌}
use Rattle.std.specs.List.{before_first}
use Rattle.std.specs.Str.{is_utf8}
use Rattle.lexer.specs.Lexemes.{is_letter, is_word_part}
use Rattle.parser_grammar.specs.Terminals.{names, word_terminal}

-- the bytes go on as words joined by dots, where a word has to begin, or has begun
unfoldable pub are_words : Bool → List ℕ → Bool
are_words begins [] = not begins
are_words true (b ∷ bs) = is_letter b && are_words false bs
are_words false (b ∷ bs) =
    if b == 46 then are_words true bs else is_word_part b && are_words false bs

abbrev pub is_dot : ℕ → Bool
is_dot b = b == 46

-- a text that may be a NAME, if it is a word
unfoldable pub is_name_word : List ℕ → Bool
is_name_word word = is_utf8 word && names (word_terminal word)

-- the first word is a NAME
abbrev pub begins_with_name : List ℕ → Bool
begins_with_name path = is_name_word (before_first is_dot path)

-- a rule can spell the path
abbrev pub is_spelled : List ℕ → Bool
is_spelled path = are_words true path && begins_with_name path
